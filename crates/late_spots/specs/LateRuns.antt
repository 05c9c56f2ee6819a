-- Runs that go on from a spot by a late operation are of the stores that stay in a list.
use Rattle.std.specs.Prelude.{◌≡◌, ℕ, ◌<◌, ◌≤◌, Bool, true, false, List, ◌∷◌, ◌++◌, length, slice_index_or, option_map, Some}
use Rattle.pages.specs.Memory.{Memory}
use Rattle.run_bounds.specs.declared.touched.TouchedByte.{TouchedByte}
use Rattle.all_endings.specs.RunStates.{Move, OwnByte, RunState, stores_from}
use Rattle.all_endings.specs.StoreLists.{Stored, has_byte, no_store}
use Rattle.hart_states.specs.States.{own_of}
use Rattle.private_bytes.specs.Ahead.{IsAhead}
use Rattle.private_bytes.specs.PrivateWalks.{Spot}
use Rattle.list_suffixes.specs.ApartRuns.{AreOfThoseKept, RunsApart}
use Rattle.list_suffixes.specs.CurrentRuns.{OwnStoresAreListed}
use Rattle.list_suffixes.specs.SettledWalks.{IsKnown}
use Rattle.list_suffixes.specs.Staying.{IsListed, MayBeLaid, stays_at}
use Rattle.early_reads.specs.EarlyMaps.{Agrees, EarlyMap, IsRight, LeavesOut}
use Rattle.early_reads.specs.Windows.{ArePassed, late_of, loads_from, shuts}

-- ---- stores

-- a store at a place, if it is hart h's, stands before all stores that come to one of its bytes
abbrev pub IsDoneAt : ℕ → RunState → ℕ → Stored → Type 0
IsDoneAt h a j s = s.hart ≡ h → (x : ℕ) × (has_byte s x ≡ true) × (j < stores_from a x)

-- so hart h does none of the stores of a list from a state on
abbrev pub AreDone : ℕ → List Stored → RunState → Type 0
AreDone h m a = (j : ℕ) → j < length m → IsDoneAt h a j (slice_index_or m j no_store)

-- none of those that are laid into memory
abbrev pub AreLaidDone : ℕ → List Bool → List Stored → RunState → Type 0
AreLaidDone h stays m a = (j : ℕ) → stays_at stays j ≡ false → IsDoneAt h a j (slice_index_or m j no_store)

-- no own last store stands behind a list
abbrev pub OwnStoresAreWithin : List Stored → RunState → Type 0
OwnStoresAreWithin m a = (x : ℕ) (o : OwnByte) → a.own x ≡ Some o → o.place ≤ length m

-- of a byte, a last own store doesn't stand behind a list, and if it stands at a place of it, it is the one that the list has there
pub record IsListedAt (m : List Stored) (x : ℕ) (o : OwnByte) : Type 0 where
  pub within : o.place ≤ length m
  pub listed : 0 < o.place → IsListed m x o

-- so the one that is kept of a byte, if any
abbrev pub IsOwnListed : List Stored → ℕ → TouchedByte → Type 0
IsOwnListed m x d = (o : OwnByte) → option_map own_of d.own ≡ Some o → IsListedAt m x o

-- ---- loads

-- behind a late move from a state a hart, which owes stores before time b or none, loads before b no other bytes than these: its bounds say so, or the
-- map does, or they are all
pub data OpensOnly (f : EarlyMap) (b : ℕ) (owes : Bool) (bytes : ℕ → Bool) (a : RunState) (v : Move) : Type 0 where
  opens-none : b ≤ loads_from a → OpensOnly f b owes bytes a v
  opens-by-map : Agrees (f.constants a.pc) a.registers → LeavesOut f a.pc →
      (shuts (late_of owes v.access) v.access ≡ false → (x : ℕ) → f.bytes (late_of owes v.access) v.next x ≡ true → bytes x ≡ true) → OpensOnly f b owes bytes a v
  opens-any : ((x : ℕ) → bytes x ≡ true) → OpensOnly f b owes bytes a v

-- ---- runs

-- the stores of a list that are laid into memory are behind what goes on from a state by a late move: the hart does none of them, and what it loads
-- has them behind it
pub record IsBehindThem (f : EarlyMap) (h : ℕ) (stays : List Bool) (m : List Stored) (owes : Bool) (bytes : ℕ → Bool) (a : RunState) (v : Move) : Type 0 where
  pub done : AreLaidDone h stays m a
  pub paid : owes ≡ false → AreDone h m a
  pub listed : OwnStoresAreListed m a
  pub within : OwnStoresAreWithin m a
  pub opens : OpensOnly f (length m) owes bytes a v
  pub passed : ArePassed stays m bytes a

-- then each run that goes on so, from any spot for which this one can stand, and whatever stands behind the list, is of those that stay
abbrev pub LateRunsAreOfThoseKept : Type 0
LateRunsAreOfThoseKept =
    (f : EarlyMap) (owns : ℕ → ℕ → Bool) (image : Memory) (h : ℕ) (stays : List Bool) (m e : List Stored) (opening : ℕ → ℕ) (owes : Bool) (bytes : ℕ → Bool) (a : RunState) (q : Spot) (v : Move) (vs : List Move) →
    IsRight f owns image h → length stays ≤ length m → MayBeLaid stays m → IsAhead a q.place.state → IsBehindThem f h stays m owes bytes a v →
    RunsApart owns image h (m ++ e) opening q (v ∷ vs) → (IsKnown owns h m v → ⊥) → AreOfThoseKept owns h stays (m ++ e) q (v ∷ vs)
