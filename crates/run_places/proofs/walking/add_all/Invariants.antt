use Rattle.std.proofs.Common.{List}
use Rattle.all_endings.specs.StoreLists.{Stored}
use Rattle.private_bytes.specs.PrivateWalks.{IsCoveredApart, Spot}
use Rattle.list_suffixes.specs.SettledWalks.{AreAhead}
use Rattle.run_places.specs.Spots.{Grows, spots_of}
use Rattle.run_places.proofs.walking.add_all.Given as goal

abbrev pub invariant-loop-place : goal.invariant-loop-place
invariant-loop-place l = record {
  grows : Grows l.fn.places.all.items l.places.all.items;
  ahead : (p : Spot) → AreAhead (spots_of l.yielded) p → AreAhead (spots_of l.places.all.items) p;
  covered : (m : List Stored) (p : Spot) → IsCoveredApart m (spots_of l.yielded) p → IsCoveredApart m (spots_of l.places.all.items) p;
}
