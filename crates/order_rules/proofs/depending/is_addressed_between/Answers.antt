use Rattle.order_rules.proofs.Following.{between_is}
use Rattle.order_rules.proofs.depending.is_addressed_between.Goals as goal

pub returns : goal.returns
returns c = between_is c.args.instructions.now c.args.events.now c.args.a c.args.b c.dependents_before.result c.requires.before c.dependents_before.ensures
