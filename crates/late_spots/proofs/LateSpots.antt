-- The runs that go on late from a spot of a settled walk.
use Rattle.std.proofs.Common.{◌≡◌, ℕ, ◌≤◌, ◌⊎◌, Bool, true, false, List, ◌∷◌, ◌++◌, length, refl, subst, inl, inr}
use Rattle.pages.specs.Memory.{Memory}
use Rattle.memory_order.specs.Operations.{covers}
use Rattle.all_endings.specs.RunStates.{Move, operates}
use Rattle.all_endings.specs.Stopping.{StopsAreKnown}
use Rattle.all_endings.specs.StoreLists.{Stored}
use Rattle.private_bytes.specs.Ahead.{IsAhead}
use Rattle.private_bytes.specs.Owners.{is_private}
use Rattle.private_bytes.specs.PrivateWalks.{Spot}
use Rattle.list_suffixes.specs.ApartRuns.{AreOfThoseKept, NoneLost, RunsApart, StandsForAlways, spots_after}
use Rattle.list_suffixes.specs.LateDebts.{IsBranchedOn, Owes}
use Rattle.list_suffixes.specs.Serving.{IsOnItsWay}
use Rattle.list_suffixes.specs.SettledWalks.{AreAhead, IsKnown}
use Rattle.list_suffixes.specs.Staying.{MayBeLaid, spot_kept}
use Rattle.list_suffixes.proofs.LateDebts.{debts_lost, touched_lost}
use Rattle.early_reads.specs.EarlyMaps.{EarlyMap, IsRight}
use Rattle.late_spots.specs.LateRuns.{IsBehindThem}
use Rattle.late_spots.specs.LateSpots.{IsSettledSpot, OfOperations, SettledSpotsAreLate, goes-known, has-new, owes-branched, owes-touched}
use Rattle.late_spots.proofs.LateRuns.{late_kept}

-- a move that isn't known operates on nobody's own bytes
unknown_operates : (owns : ℕ → ℕ → Bool) (h : ℕ) (m : List Stored) (v : Move) → (IsKnown owns h m v → ⊥) → (operates v ≡ true) × (is_private owns h v.access ≡ false)
unknown_operates owns h m v unknown = (by_test (operates v) refl, by_owner (is_private owns h v.access) refl)
  where
    by_test : (c : Bool) → operates v ≡ c → c ≡ true
    by_test true o = refl
    by_test false o = absurd (unknown (λ op public. absurd (cc)))

    by_owner : (c : Bool) → is_private owns h v.access ≡ c → c ≡ false
    by_owner false o = refl
    by_owner true o = absurd (unknown (λ op public. absurd (cc)))

module _ (stops : StopsAreKnown) (f : EarlyMap) (owns : ℕ → ℕ → Bool) (image : Memory) (harts h : ℕ) (stays : List Bool) (m e : List Stored) (opening : ℕ → ℕ) (new : List Spot) (p q : Spot) (v : Move) (vs : List Move)
    (right : IsRight f owns image h) (few : length stays ≤ length m) (may : MayBeLaid stays m) (stands : StandsForAlways p q) (run : RunsApart owns image h (m ++ e) opening q (v ∷ vs)) (none : NoneLost owns h (m ++ e) q (v ∷ vs))
    (unknown : IsKnown owns h m v → ⊥) where
  ahead : IsAhead p.place.state q.place.state
  ahead = (stands m).state

  -- what is said of its operations is so of the move
  of_it : (P : Move → Type 0) → OfOperations owns image h p.place.state P → P v
  of_it P each = let o = unknown_operates owns h m v unknown in each (m ++ e) opening q v ahead run.0 o.0 o.1

  owes_too : (o : Owes h m p) → Owes h m q
  owes_too o = record { store = o.store; within = o.within; hart = o.hart; owed = by_test (q.place.paid o.store) refl; byte = o.byte; has = o.has }
    where
      by_test : (b : Bool) → q.place.paid o.store ≡ b → b ≡ false
      by_test false d = refl
      by_test true d = absurd (let y = (stands m).paid o.store o.within d in let n = o.owed in cc)

  goes_on : IsSettledSpot f owns image h stays m new p →
      (AreAhead new (spot_kept stays m p) × AreOfThoseKept owns h stays (m ++ e) q (v ∷ vs)) ⊎ IsOnItsWay owns image harts h (length m) (v ∷ vs) (spots_after owns h (m ++ e) q (v ∷ vs))
  unfolding owes_too
  goes_on (goes-known none_there) = absurd (of_it (λ w. ⊥) none_there)
  goes_on (owes-touched o covered) = absurd (unknown (touched_lost owns image h m e opening q v vs (owes_too o) (of_it (λ w. covers w.access o.byte ≡ true) covered) run none))
  goes_on (owes-branched o branched) =
      inr (debts_lost stops owns image harts h m e opening q v vs (subst (IsBranchedOn image) ahead.pc branched) (owes_too o) ahead.carried.size run none unknown)
  goes_on (has-new owes bytes there each) =
      inl (there, late_kept f owns image h stays m e opening owes bytes p.place.state q v vs right few may ahead (of_it (λ w. IsBehindThem f h stays m owes bytes p.place.state w) each) run unknown)

pub spots_late : SettledSpotsAreLate
spots_late stops f owns image harts h stays m e opening new p q v vs right few may spot stands run none unknown =
    goes_on stops f owns image harts h stays m e opening new p q v vs right few may stands run none unknown spot
