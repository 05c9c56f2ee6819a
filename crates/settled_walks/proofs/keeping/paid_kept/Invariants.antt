use Rattle.std.proofs.Common.{◌≡◌, ℕ, true, take}
use Rattle.list_suffixes.specs.Staying.{place_before}
use Rattle.run_places.specs.Spots.{is_among}
use Rattle.settled_walks.proofs.keeping.paid_kept.Given as goal

abbrev pub invariant-loop-index : goal.invariant-loop-index
invariant-loop-index l = (j : ℕ) → is_among (take l.index l.paid) (place_before l.stays j) ≡ true → is_among l.kept.items j ≡ true
