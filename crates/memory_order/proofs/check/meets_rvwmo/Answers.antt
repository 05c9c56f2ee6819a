use Rattle.std.proofs.Common.{refl}
use Rattle.trace.specs.Traced.{opening_at}
use Rattle.memory_order.proofs.Composing.{at_some, meets_whole}
use Rattle.memory_order.proofs.check.meets_rvwmo.Goals as goal

pub returns-in_ok-meets_axioms-in-Some : goal.returns-in_ok-meets_axioms-in-Some
returns-in_ok-meets_axioms-in-Some c =
    meets_whole c.args.events.now c.args.events.now (opening_at c.args.trace.now.opening) c.args.order.now c.args.order.now _
    refl refl (at_some c.in_ok-ranks.field-0 c.in-Some.ranks _ _ c.in-Some.is c.in_ok-ranks.ensures).0
    c.in_ok-meets_axioms-in-Some.ensures
