use Rattle.hart_states.specs.States.{listed}
use Rattle.run_places.specs.Spots.{spot_of}
use Rattle.late_spots.proofs.Settling.{owes_there}
use Rattle.late_spots.proofs.owing.owes_some.Goals as goal

pub returns-then-owes_at : goal.returns-then-owes_at
returns-then-owes_at c = λ held. owes_there c.args.against.now.hart (listed c.args.against.now.list.now) (spot_of c.args.place.now) c.loop-index.index _ (c.owes_at.ensures c.if-owes_at.true)
