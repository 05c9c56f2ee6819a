use Rattle.std.proofs.Common.{◌+◌, ◌++◌, ◌∙◌, ℕ, List, get_or, refl, ap, add-one}
use Rattle.std.proofs.lemmas.List.{map-id}
use Rattle.std.specs.Int.{w64}
use Rattle.recording.specs.Fields.{spelled_each}
use Rattle.recording.specs.Grammar.{any}
use Rattle.recording.proofs.Written.{one_more, all_written}
use Rattle.recording.proofs.writing.put_registers.Goals as goal

pub loop-value-preserved : goal.loop-value-preserved
loop-value-preserved c =
    one_more (λ _. any w64) (λ (n : ℕ). n) c.args.values.now c.loop-value.value-index (c.loop-value.value-index + 1) ((c.loop-value.value-index + 1) + 1) (get_or c.args.values.now c.loop-value.value-index 0) 0 c.loop-value.text.items c.put_double.new.text.items _
    c.loop-value-test.true refl (add-one (c.loop-value.value-index + 1)) c.in_ok-put_double.ensures c.loop-value.invariant

pub returns : goal.returns
returns c =
    all_written (λ _. any w64) (λ (n : ℕ). n) c.args.values.now c.loop-value.value-index (c.loop-value.value-index + 1) c.loop-value.text.items _ c.loop-value-test.false c.loop-value.invariant
    ∙ ap (λ (ns : List ℕ). c.args.text.now.items ++ spelled_each 1 (λ _. any w64) ns) (map-id c.args.values.now)
