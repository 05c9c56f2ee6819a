-- Spots of a settled walk: what is to be seen at one, so that the runs that go on from it by something late are of the stores that stay in a list.
use Rattle.std.specs.Prelude.{◌≡◌, ℕ, ◌≤◌, ◌⊎◌, Bool, true, false, List, ◌∷◌, ◌++◌, length}
use Rattle.pages.specs.Memory.{Memory}
use Rattle.memory_order.specs.Operations.{covers}
use Rattle.all_endings.specs.RunStates.{Move, RunState, operates}
use Rattle.all_endings.specs.Stopping.{StopsAreKnown}
use Rattle.all_endings.specs.StoreLists.{Stored}
use Rattle.private_bytes.specs.Ahead.{IsAhead}
use Rattle.private_bytes.specs.Owners.{is_private}
use Rattle.private_bytes.specs.PrivateWalks.{Spot}
use Rattle.list_suffixes.specs.ApartRuns.{AreOfThoseKept, MovesApart, NoneLost, RunsApart, StandsForAlways, spots_after}
use Rattle.list_suffixes.specs.LateDebts.{IsBranchedOn, Owes}
use Rattle.list_suffixes.specs.Serving.{IsOnItsWay}
use Rattle.list_suffixes.specs.SettledWalks.{AreAhead, IsKnown}
use Rattle.list_suffixes.specs.Staying.{MayBeLaid, spot_kept}
use Rattle.early_reads.specs.EarlyMaps.{EarlyMap, IsRight}
use Rattle.late_spots.specs.LateRuns.{IsBehindThem}

-- what is said of each memory operation on nobody's own bytes by which a hart goes on, against any list, from where this state can stand
abbrev pub OfOperations : (ℕ → ℕ → Bool) → Memory → ℕ → RunState → (Move → Type 0) → Type 0
OfOperations owns image h a P =
    (m : List Stored) (opening : ℕ → ℕ) (q : Spot) (v : Move) → IsAhead a q.place.state → MovesApart owns image h m opening q v →
    operates v ≡ true → is_private owns h v.access ≡ false → P v

pub data IsSettledSpot (f : EarlyMap) (owns : ℕ → ℕ → Bool) (image : Memory) (h : ℕ) (stays : List Bool) (m : List Stored) (new : List Spot) (p : Spot) : Type 0 where
  -- there is no such operation
  goes-known : OfOperations owns image h p.place.state (λ v. ⊥) → IsSettledSpot f owns image h stays m new p
  -- the hart owes a store of the list, and the operation is on one of its bytes
  owes-touched : (o : Owes h m p) → OfOperations owns image h p.place.state (λ v. covers v.access o.byte ≡ true) → IsSettledSpot f owns image h stays m new p
  -- it owes a store, and is at a load on which a branch comes next
  owes-branched : Owes h m p → IsBranchedOn image p.place.state.pc → IsSettledSpot f owns image h stays m new p
  -- it has a new spot, and the stores that are laid into memory are behind it
  has-new : (owes : Bool) (bytes : ℕ → Bool) → AreAhead new (spot_kept stays m p) → OfOperations owns image h p.place.state (λ v. IsBehindThem f h stays m owes bytes p.place.state v) →
      IsSettledSpot f owns image h stays m new p

-- then the runs that go on late are as a settled walk asks (`IsSettledWalk`)
abbrev pub SettledSpotsAreLate : Type 0
SettledSpotsAreLate =
    StopsAreKnown → (f : EarlyMap) (owns : ℕ → ℕ → Bool) (image : Memory) (harts h : ℕ) (stays : List Bool) (m e : List Stored) (opening : ℕ → ℕ) (new : List Spot) (p q : Spot) (v : Move) (vs : List Move) →
    IsRight f owns image h → length stays ≤ length m → MayBeLaid stays m → IsSettledSpot f owns image h stays m new p → StandsForAlways p q →
    RunsApart owns image h (m ++ e) opening q (v ∷ vs) → NoneLost owns h (m ++ e) q (v ∷ vs) → (IsKnown owns h m v → ⊥) →
    (AreAhead new (spot_kept stays m p) × AreOfThoseKept owns h stays (m ++ e) q (v ∷ vs)) ⊎ IsOnItsWay owns image harts h (length m) (v ∷ vs) (spots_after owns h (m ++ e) q (v ∷ vs))
