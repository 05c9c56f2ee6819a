use Rattle.std.proofs.Common.{◌++◌, ◌∙◌, List, ℕ, ap, codes}
use Rattle.std.specs.Fmt.{decimal}
use Rattle.execution_file.specs.Grammar.{double}
use Rattle.execution_file.specs.Formats.{spelled_after, spelled_list}
use Rattle.execution_file.proofs.Written.{hart_written, on_ok}
use Rattle.execution_file.proofs.writing.put_hart.Goals as goal

pub returns : goal.returns
returns c =
    on_ok c.put_numbers.result _ _ (λ e.
    e ∙ ap (λ (t : List ℕ). t ++ spelled_list double c.as_slice.result.now) c.in_ok-put.ensures
    ∙ ap (λ (t : List ℕ). t ++ codes "\nread" ++ spelled_list double c.as_slice.result.now) c.in_ok-put_hart_line.ensures
    ∙ hart_written c.args.text.now.items (codes "hart " ++ decimal c.args.index) (codes " steps " ++ decimal c.args.part.now.steps) (codes " stop " ++ decimal c.args.part.now.code) (spelled_after 32 double c.args.part.now.value) (codes "\nread") (spelled_list double c.as_slice.result.now)
    ∙ ap (λ (ns : List ℕ). c.args.text.now.items ++ (codes "hart " ++ decimal c.args.index ++ (codes " steps " ++ decimal c.args.part.now.steps ++ (codes " stop " ++ decimal c.args.part.now.code ++ (spelled_after 32 double c.args.part.now.value ++ (codes "\nread" ++ spelled_list double ns)))))) c.as_slice.ensures.value) c.put_numbers.ensures
