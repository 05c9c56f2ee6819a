-- Moves that differ in what the state behind them hardly hangs on: of those that do the same, the earliest is the best.
use Rattle.std.specs.Prelude.{◌≡◌, ℕ, ◌≤◌, true, List, length}
use Rattle.round_schedule.specs.Accesses.{loads}
use Rattle.round_schedule.specs.Accesses.{stores as writing}
use Rattle.memory_order.specs.Operations.{covers}
use Rattle.memory_order.specs.Registers.{registers_of}
use Rattle.rule_checker.specs.CarriedBounds.{AreRegisters}
use Rattle.all_endings.specs.Locality.{set_view}
use Rattle.all_endings.specs.Lowering.{IsLower}
use Rattle.all_endings.specs.RunStates.{Move, RunState, answers_to, behind, moved, operates}
use Rattle.all_endings.specs.StoreLists.{Stored}

-- v and w do the same, and v isn't later: if it is a memory operation, what it reads is from the same stores; a store stands at the same time,
-- with the same number
pub record IsNoLater (m : List Stored) (a : RunState) (v w : Move) : Type 0 where
  pub instruction : v.instruction ≡ w.instruction
  pub access : v.access ≡ w.access
  pub next : v.next ≡ w.next
  pub registers : set_view a.registers (answers_to v.instruction) v.result ≡ set_view a.registers (answers_to v.instruction) w.result
  pub time : operates v ≡ true → behind m v ≤ behind m w
  pub source : loads v.access ≡ true → (x : ℕ) → covers v.access x ≡ true → v.source x ≡ w.source x
  pub place : writing v.access ≡ true → behind m v ≡ behind m w
  pub written : writing v.access ≡ true → v.written ≡ w.written

-- a state has a bound for each register
abbrev pub IsSized : RunState → Type 0
IsSized a = length a.carried.registers ≡ 32

-- then it leaves a lower state: so a load takes the least time at which it reads what it reads
abbrev pub EarlierMovesAreLower : Type 0
EarlierMovesAreLower =
    (h : ℕ) (m : List Stored) (a : RunState) (v w : Move) → IsSized a → AreRegisters (registers_of v.instruction) → IsNoLater m a v w →
    IsLower (moved h m a v) (moved h m a w)
