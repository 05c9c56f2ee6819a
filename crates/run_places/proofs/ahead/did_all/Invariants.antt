use Rattle.std.proofs.Common.{◌≡◌, ℕ, true, take}
use Rattle.run_places.specs.Spots.{is_among}
use Rattle.run_places.proofs.ahead.did_all.Given as goal

abbrev pub invariant-loop-index : goal.invariant-loop-index
invariant-loop-index l = (j : ℕ) → is_among (take l.index l.others) j ≡ true → is_among l.paid j ≡ true
