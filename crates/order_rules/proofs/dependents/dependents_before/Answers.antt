use Rattle.round_schedule.specs.Positions.{event}
use Rattle.order_rules.proofs.Following.{dependents_none}
use Rattle.order_rules.proofs.dependents.dependents_before.Goals as goal

pub loop-k-init : goal.loop-k-init
loop-k-init c = dependents_none c.args.instructions.now c.args.events.now c.args.i (event c.args.events.now c.args.i).hart
