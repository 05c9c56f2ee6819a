use Rattle.std.proofs.Common.{ℕ, List, sym, ap, ◌∙◌}
use Rattle.all_endings.specs.Locality.{filled}
use Rattle.hart_step.specs.Effect.{action}
use Rattle.run_bounds.specs.Operations.{operation_in}
use Rattle.early_reads.proofs.Accesses.{access_of_operation}
use Rattle.early_reads.proofs.coming_access.access_over.Goals as goal

pub returns-in-Some : goal.returns-in-Some
returns-in-Some c =
    let x = c.filled.ensures in
    let o = c.operation_of.ensures in
    c.access.ensures ∙ sym (access_of_operation (action c.args.i.now (filled c.args.constants.now) c.args.pc) c.in-Some.operation
    (ap (λ (y : List ℕ). operation_in (action c.args.i.now y c.args.pc)) (sym x) ∙ sym o ∙ c.in-Some.is))
