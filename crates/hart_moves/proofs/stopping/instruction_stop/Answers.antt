use Rattle.std.proofs.Common.{sym, ◌∙◌}
use Rattle.hart_step.specs.Effect.{action}
use Rattle.hart_moves.proofs.Stops.{operation_stops}
use Rattle.hart_moves.proofs.stopping.instruction_stop.Goals as goal

pub returns-in-Some : goal.returns-in-Some
returns-in-Some c =
    c.access_stop.ensures
    ∙ operation_stops c.args.pages.now.memory c.args.hart.x (action c.args.i c.args.hart.x c.args.hart.pc) c.in-Some.operation (sym c.operation_of.ensures ∙ c.in-Some.is)
