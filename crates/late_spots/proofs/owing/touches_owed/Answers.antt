use Rattle.hart_states.specs.States.{listed}
use Rattle.run_places.specs.Spots.{spot_of}
use Rattle.late_spots.proofs.Settling.{touches_there}
use Rattle.late_spots.proofs.owing.touches_owed.Goals as goal

pub returns-then-touches_at : goal.returns-then-touches_at
returns-then-touches_at c = λ held.
    touches_there c.args.against.now.hart (listed c.args.against.now.list.now) (spot_of c.args.place.now) c.loop-index.index c.args.access.now (c.touches_at.ensures c.if-touches_at.true)
