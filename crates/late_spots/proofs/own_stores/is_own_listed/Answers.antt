use Rattle.hart_states.specs.States.{listed}
use Rattle.late_spots.proofs.OwnStores.{own_listed}
use Rattle.late_spots.proofs.own_stores.is_own_listed.Goals as goal

pub returns-in-Some : goal.returns-in-Some
returns-in-Some c = λ held. own_listed (listed c.args.list.now) c.args.byte.now.address c.args.byte.now c.in-Some.own c.in-Some.is (c.is_listed.ensures held)
