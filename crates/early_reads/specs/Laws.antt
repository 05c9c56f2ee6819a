-- Loads behind a late operation are current.
use Rattle.std.specs.Prelude.{◌≡◌, ℕ, ◌<◌, ◌≤◌, Bool, true, false, List, [], ◌∷◌, ◌++◌, length, Contains, Some}
use Rattle.pages.specs.Memory.{Memory}
use Rattle.round_schedule.specs.Accesses.{loads}
use Rattle.round_schedule.specs.Accesses.{stores as writing}
use Rattle.hart_step.specs.DecodedCode.{decoded}
use Rattle.memory_order.specs.Operations.{covers}
use Rattle.all_endings.specs.HartRuns.{IsPlaced, Stands}
use Rattle.all_endings.specs.RunStates.{Move, RunState, operates}
use Rattle.all_endings.specs.StoreLists.{Stored}
use Rattle.private_bytes.specs.Owners.{is_private}
use Rattle.private_bytes.specs.PrivateMoves.{ActsApart}
use Rattle.list_suffixes.specs.KeptMoves.{IsCurrent}
use Rattle.early_reads.specs.declared.early_point.LateKinds.{LateKinds}
use Rattle.early_reads.specs.EarlyMaps.{Agrees, EarlyMap, IsRight, LeavesOut}
use Rattle.early_reads.specs.Windows.{ArePassed, DidLate, late_of, left_by_move, loads_from, shuts}

-- ---- what may be loaded early

-- from a state on, no other bytes than these are loaded before time b, by loads that don't write; of a hart that owes stores before b, or none
pub data LoadsOnly (f : EarlyMap) (b : ℕ) (owes : Bool) (bytes : ℕ → Bool) (a : RunState) : Type 0 where
  -- none
  none-early : b ≤ loads_from a → LoadsOnly f b owes bytes a
  -- those that the map has
  by-map : (l : LateKinds) → l.owes ≡ owes → DidLate b l a → Agrees (f.constants a.pc) a.registers → ((x : ℕ) → f.bytes l a.pc x ≡ true → bytes x ≡ true) → LoadsOnly f b owes bytes a
  -- these are all
  any-bytes : ((x : ℕ) → bytes x ≡ true) → LoadsOnly f b owes bytes a

-- a store to nobody's own bytes stands at or behind time b
abbrev pub IsLateStore : (ℕ → ℕ → Bool) → ℕ → ℕ → Move → Type 0
IsLateStore owns h b v = writing v.access ≡ true → is_private owns h v.access ≡ false → b ≤ v.time

-- so it stays behind each move, where a hart that owes none does late stores alone; and a load that doesn't write, and isn't of the hart's own bytes,
-- stands at or behind b, or is of these bytes
abbrev pub LoadsStayOnly : Type 0
LoadsStayOnly =
    (f : EarlyMap) (owns : ℕ → ℕ → Bool) (image : Memory) (h b : ℕ) (m : List Stored) (opening : ℕ → ℕ) (owes : Bool) (bytes : ℕ → Bool) (a : RunState) (v : Move) →
    IsRight f owns image h → b ≤ length m → decoded image a.pc ≡ Some v.instruction → ActsApart owns image h m opening (IsPlaced h m) a v →
    (operates v ≡ true → Stands a v) → (owes ≡ false → IsLateStore owns h b v) → LoadsOnly f b owes bytes a →
    LoadsOnly f b owes bytes (left_by_move owns h m a v) ×
    (loads v.access ≡ true → writing v.access ≡ false → is_private owns h v.access ≡ false → v.time < b → (x : ℕ) → covers v.access x ≡ true → bytes x ≡ true)

-- it is so behind a late operation, where the map tells anything of its instruction
abbrev pub LateOperationsOpen : Type 0
LateOperationsOpen =
    (f : EarlyMap) (owns : ℕ → ℕ → Bool) (image : Memory) (h b : ℕ) (m : List Stored) (opening : ℕ → ℕ) (owes : Bool) (bytes : ℕ → Bool) (a : RunState) (v : Move) →
    IsRight f owns image h → b ≤ length m → decoded image a.pc ≡ Some v.instruction → ActsApart owns image h m opening (IsPlaced h m) a v →
    operates v ≡ true → is_private owns h v.access ≡ false → b ≤ v.time → Agrees (f.constants a.pc) a.registers → LeavesOut f a.pc →
    (shuts (late_of owes v.access) v.access ≡ false → (x : ℕ) → f.bytes (late_of owes v.access) v.next x ≡ true → bytes x ≡ true) →
    LoadsOnly f b owes bytes (left_by_move owns h m a v)

-- ---- runs

-- a run of hart h against a list of stores to nobody's own bytes, from a state on
pub data RunsOn (owns : ℕ → ℕ → Bool) (image : Memory) (h : ℕ) (m : List Stored) (opening : ℕ → ℕ) (a : RunState) : List Move → RunState → Type 0 where
  on-none : RunsOn owns image h m opening a [] a
  on-more : (c : RunState) (vs : List Move) (v : Move) → RunsOn owns image h m opening a vs c → decoded image c.pc ≡ Some v.instruction →
      ActsApart owns image h m opening (IsPlaced h m) c v → (operates v ≡ true → Stands c v) → RunsOn owns image h m opening a (vs ++ v ∷ []) (left_by_move owns h m c v)

-- where a state loads before time b no other bytes than some, and has passed the stores to them that are laid into memory, all of them before b, each
-- load behind it that doesn't write, and whose number is known, is current: where its hart owes none of those before b, if its stores are late
abbrev pub LoadsAreCurrent : Type 0
LoadsAreCurrent =
    (f : EarlyMap) (owns : ℕ → ℕ → Bool) (image : Memory) (h b : ℕ) (stays : List Bool) (m : List Stored) (opening : ℕ → ℕ) (owes : Bool) (bytes : ℕ → Bool) (a c : RunState) (vs : List Move) →
    IsRight f owns image h → length stays ≤ b → b ≤ length m → LoadsOnly f b owes bytes a → ArePassed stays m bytes a → RunsOn owns image h m opening a vs c →
    (owes ≡ false → (v : Move) → Contains vs v → IsLateStore owns h b v) →
    (v : Move) → Contains vs v → loads v.access ≡ true → writing v.access ≡ false → is_private owns h v.access ≡ false → v.time ≤ length m → IsCurrent stays m v
