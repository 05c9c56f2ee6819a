use Rattle.memory_order.proofs.Composing.{at_none, at_some}
use Rattle.refusal_reasons.proofs.pairs.find_broken.Goals as goal

pub first_broken_at-requires-clause-second : goal.first_broken_at-requires-clause-second
first_broken_at-requires-clause-second c = at_some c.in_ok-violation.violation c.in-Some.second _ _ c.in-Some.is c.in_ok-violation.ensures

pub returns-in-None : goal.returns-in-None
returns-in-None c = at_none c.in_ok-violation.violation _ _ c.in-None.is c.in_ok-violation.ensures
