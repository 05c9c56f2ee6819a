use Rattle.std.proofs.Common.{ℕ, ◌<◌, get_or}
use Rattle.list_suffixes.specs.SettledWalks.{AreAhead}
use Rattle.run_places.specs.declared.place.Place.{Place}
use Rattle.run_places.specs.Spots.{spot_of, spots_of}
use Rattle.run_places.proofs.walking.begun.Given as goal

abbrev pub invariant-loop-place : goal.invariant-loop-place
invariant-loop-place l = (j : ℕ) (d : Place) → j < l.place-index → AreAhead (spots_of l.places.all.items) (spot_of (get_or l.begin j d))
