use Rattle.std.proofs.Common.{◌++◌, ◌∙◌, ℕ, List, ap, get_or, refl}
use Rattle.std.proofs.lemmas.List.{map-id}
use Rattle.execution_file.specs.Grammar.{double}
use Rattle.execution_file.specs.Formats.{spelled_list}
use Rattle.execution_file.proofs.Written.{list_ended, list_more, on_ok}
use Rattle.execution_file.proofs.writing.put_numbers.Goals as goal

pub loop-number-preserved : goal.loop-number-preserved
loop-number-preserved c =
    list_more double (λ (n : ℕ). n) c.args.numbers.now c.loop-number.number-index (get_or c.args.numbers.now c.loop-number.number-index 0) 0 c.loop-number.text.items c.put.new.text.items c.put_number.new.text.items _
    c.loop-number-test.true refl c.in_ok-put.ensures c.in_ok-put_number.ensures c.loop-number.invariant

pub returns : goal.returns
returns c =
    on_ok c.put-ended.result _ _ (λ e.
    list_ended double (λ (n : ℕ). n) c.args.numbers.now c.loop-number.number-index c.loop-number.text.items c.put-ended.new.text.items _ c.loop-number-test.false e c.loop-number.invariant
    ∙ ap (λ (ns : List ℕ). c.args.text.now.items ++ spelled_list double ns) (map-id c.args.numbers.now)) c.put-ended.ensures
