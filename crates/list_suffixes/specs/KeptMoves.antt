-- A move against a list of stores is one against those that stay in it, over the memory that the others left, if it does none of these, and reads
-- what they left.
use Rattle.std.specs.Prelude.{◌≡◌, ℕ, ◌<◌, ◌≤◌, Bool, true, false, if◌then◌else◌, List, length, slice_index_or, Some}
use Rattle.pages.specs.Memory.{Memory}
use Rattle.round_schedule.specs.Accesses.{loads}
use Rattle.round_schedule.specs.Accesses.{stores as writing}
use Rattle.hart_step.specs.DecodedCode.{decoded}
use Rattle.memory_order.specs.Operations.{covers}
use Rattle.all_endings.specs.HartRuns.{IsPlaced, Stands}
use Rattle.all_endings.specs.RunStates.{Move, OwnByte, RunState, moved, operates}
use Rattle.all_endings.specs.StoreLists.{Stored, has_byte, no_store}
use Rattle.all_endings.specs.Tables.{memory_of}
use Rattle.private_bytes.specs.Ahead.{IsAhead}
use Rattle.private_bytes.specs.Owners.{is_private}
use Rattle.private_bytes.specs.PrivateMoves.{ActsApart, moved_privately}
use Rattle.list_suffixes.specs.Staying.{AreShared, IsListed, MayBeLaid, kept, kept_before, laid, place_kept, state_kept, stays_at}

-- each store of a list that is laid into memory, to a byte of what is read, stands before the store that this byte is from
abbrev pub IsCurrent : List Bool → List Stored → Move → Type 0
IsCurrent stays m v =
    (k x : ℕ) → stays_at stays k ≡ false → covers v.access x ≡ true → has_byte (slice_index_or m k no_store) x ≡ true → k < v.source x

-- an operation on shared bytes does no store that is laid into memory, and reads what these left: also where it is from an own store that stands
-- behind it
pub record IsOfThoseKept (stays : List Bool) (m : List Stored) (a : RunState) (v : Move) : Type 0 where
  pub stores : writing v.access ≡ true → stays_at stays v.time ≡ true
  pub current : loads v.access ≡ true → v.time ≤ length m → IsCurrent stays m v
  pub own : loads v.access ≡ true → (o : OwnByte) (x : ℕ) → covers v.access x ≡ true → a.own x ≡ Some o → v.time < o.place → o.place ≤ length stays → IsListed m x o

-- u is v, with its time and its sources counted by the stores that stay
pub record IsMoveKept (stays : List Bool) (m : List Stored) (v u : Move) : Type 0 where
  pub instruction : u.instruction ≡ v.instruction
  pub access : u.access ≡ v.access
  pub time : u.time ≡ kept_before stays v.time
  pub source : (x : ℕ) → u.source x ≡ place_kept stays m x (v.source x)

-- what a move leaves, against a list of stores to nobody's own bytes
abbrev pub state_after : (ℕ → ℕ → Bool) → ℕ → List Stored → RunState → Move → RunState
state_after owns h m a v = if is_private owns h v.access then moved_privately h m a v else moved h m a v

-- what a state does, each one that is ahead of it does as well, against the stores that stay; and it is ahead then, too
abbrev pub MovesAreKept : Type 0
MovesAreKept =
    (owns : ℕ → ℕ → Bool) (image : Memory) (h : ℕ) (stays : List Bool) (m : List Stored) (opening : ℕ → ℕ) (a p : RunState) (v : Move) →
    length stays ≤ length m → MayBeLaid stays m → AreShared owns h m →
    length a.registers ≡ 32 → IsAhead p (state_kept stays m a) → decoded image a.pc ≡ Some v.instruction →
    (operates v ≡ true → is_private owns h v.access ≡ false → IsOfThoseKept stays m a v) →
    ActsApart owns image h m opening (IsPlaced h m) a v → (operates v ≡ true → Stands a v) →
    (u : Move) × IsMoveKept stays m v u ×
    ActsApart owns image h (kept stays m) (memory_of (laid stays m) opening) (IsPlaced h (kept stays m)) p u × (operates u ≡ true → Stands p u) ×
    IsAhead (state_after owns h (kept stays m) p u) (state_kept stays m (state_after owns h m a v))
