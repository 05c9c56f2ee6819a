use Rattle.std.proofs.Common.{ℕ, ◌<◌, get_or}
use Rattle.early_reads.specs.Checking.{map_of}
use Rattle.hart_states.specs.States.{listed}
use Rattle.own_moves.specs.Owned.{owns_of}
use Rattle.run_places.specs.declared.place.Place.{Place}
use Rattle.run_places.specs.Spots.{spot_of, spots_of}
use Rattle.settled_walks.specs.SettledPlaces.{IsSettledAt}
use Rattle.settled_walks.proofs.settling.settle.Given as goal

abbrev pub invariant-loop-place : goal.invariant-loop-place
invariant-loop-place l =
    (j : ℕ) (d : Place) → j < l.place-index → IsSettledAt (map_of l.points) (owns_of l.against.owned.now) l.against.memory.pages.now.memory l.against.hart l.stays (listed l.against.list.now)
    (spots_of l.new.all.items) (spot_of (get_or l.places j d))
