-- Runs whose stores stay in a list, told of what their loads read.
use Rattle.std.specs.Prelude.{◌≡◌, ℕ, ◌<◌, ◌≤◌, Bool, true, false, List, length, Contains, Some}
use Rattle.pages.specs.Memory.{Memory}
use Rattle.round_schedule.specs.Accesses.{loads}
use Rattle.round_schedule.specs.Accesses.{stores as writing}
use Rattle.all_endings.specs.RunStates.{Move, OwnByte, RunState}
use Rattle.all_endings.specs.StoreLists.{Stored}
use Rattle.private_bytes.specs.Owners.{is_private}
use Rattle.private_bytes.specs.PrivateWalks.{Spot}
use Rattle.list_suffixes.specs.ApartRuns.{AreOfThoseKept, RunsApart}
use Rattle.list_suffixes.specs.KeptMoves.{IsCurrent}
use Rattle.list_suffixes.specs.Staying.{IsListed, MayBeLaid, stays_at}

-- an own last store that stands at a place of the list is the one that the list has there
abbrev pub OwnStoresAreListed : List Stored → RunState → Type 0
OwnStoresAreListed m a = (x : ℕ) (o : OwnByte) → a.own x ≡ Some o → 0 < o.place → o.place ≤ length m → IsListed m x o

-- the stores to shared bytes are among those that stay
abbrev pub StoresStay : (ℕ → ℕ → Bool) → ℕ → List Bool → List Move → Type 0
StoresStay owns h stays vs = (v : Move) → Contains vs v → writing v.access ≡ true → is_private owns h v.access ≡ false → stays_at stays v.time ≡ true

-- the loads whose number is known read what the others left
abbrev pub AreCurrentLoads : (ℕ → ℕ → Bool) → ℕ → List Bool → List Stored → List Move → Type 0
AreCurrentLoads owns h stays m vs =
    (v : Move) → Contains vs v → loads v.access ≡ true → writing v.access ≡ false → is_private owns h v.access ≡ false → v.time ≤ length m → IsCurrent stays m v

-- then a run is of those that stay: what an AMO reads is told by its place
abbrev pub CurrentRunsAreOfThoseKept : Type 0
CurrentRunsAreOfThoseKept =
    (owns : ℕ → ℕ → Bool) (image : Memory) (h : ℕ) (stays : List Bool) (m : List Stored) (opening : ℕ → ℕ) (a : Spot) (vs : List Move) →
    length stays ≤ length m → MayBeLaid stays m → RunsApart owns image h m opening a vs →
    OwnStoresAreListed m a.place.state → StoresStay owns h stays vs → AreCurrentLoads owns h stays m vs → AreOfThoseKept owns h stays m a vs
