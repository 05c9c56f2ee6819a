use Rattle.round_schedule.specs.Positions.{event}
use Rattle.order_rules.specs.Dependents.{AreDependents}
use Rattle.order_rules.proofs.dependents.dependents_before.Given as goal

abbrev pub invariant-loop-k : goal.invariant-loop-k
invariant-loop-k l = AreDependents l.instructions l.events l.i (event l.events l.i).hart l.k l.dependents
