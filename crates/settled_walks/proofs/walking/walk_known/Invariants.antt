use Rattle.std.proofs.Common.{ℕ, ◌<◌, get_or}
use Rattle.hart_states.specs.Opening.{opening_of}
use Rattle.hart_states.specs.States.{listed}
use Rattle.own_moves.specs.Owned.{owns_of}
use Rattle.run_places.specs.declared.place.Place.{Place}
use Rattle.run_places.specs.Spots.{Grows, spot_of, spots_of}
use Rattle.settled_walks.specs.KnownWalks.{IsKnownAt}
use Rattle.settled_walks.proofs.walking.walk_known.Given as goal

abbrev pub invariant-loop-done : goal.invariant-loop-done
invariant-loop-done l = record {
  grows : Grows l.fn.places.all.items l.places.all.items;
  known : (j : ℕ) (d : Place) → j < l.done → IsKnownAt (owns_of l.against.owned.now) l.against.steps l.against.memory.pages.now.memory l.against.harts l.against.hart
      (listed l.against.list.now) (opening_of l.against.memory) (spots_of l.places.all.items) (spot_of (get_or l.places.all.items j d));
}
