use Rattle.plan_hunt.proofs.Same.{same_stops}
use Rattle.plan_hunt.proofs.ending.are_same_stops.Goals as goal

pub returns : goal.returns
returns c = same_stops c.args.stops.now c.args.others.now c.eq.result c.eq.ensures
