-- Loads that need not be followed LATER: those that may read, earlier, no store behind what their hart has seen.
use Rattle.std.specs.Prelude.{◌≡◌, ℕ, ◌≤◌, true, false, List, None}
use Rattle.round_schedule.specs.Accesses.{loads}
use Rattle.round_schedule.specs.Accesses.{stores as writing}
use Rattle.memory_order.specs.Operations.{covers}
use Rattle.memory_order.specs.Registers.{registers_of}
use Rattle.rule_checker.specs.CarriedBounds.{AreRegisters}
use Rattle.all_endings.specs.Earlier.{IsSized}
use Rattle.all_endings.specs.RunStates.{Move, RunState, moved}
use Rattle.all_endings.specs.StoreLists.{Stored, later}
use Rattle.private_bytes.specs.Ahead.{IsAhead}

-- v and w are one load; w is LATER, and v reads no store behind those that were seen (rule 2)
pub record IsLoadAndLater (m : List Stored) (a : RunState) (v w : Move) : Type 0 where
  pub instruction : v.instruction ≡ w.instruction
  pub access : v.access ≡ w.access
  pub next : v.next ≡ w.next
  pub loads : loads w.access ≡ true
  pub plain : writing w.access ≡ false
  pub seen : (x : ℕ) → covers w.access x ≡ true → v.source x ≤ a.seen x
  pub late : w.time ≡ later m
  pub unknown : w.result ≡ None
  pub sources : (x : ℕ) → w.source x ≡ 0

-- then v leaves a state that is ahead of w's
abbrev pub EarlyLoadsAreAhead : Type 0
EarlyLoadsAreAhead =
    (h : ℕ) (m : List Stored) (a : RunState) (v w : Move) → IsSized a → AreRegisters (registers_of w.instruction) → IsLoadAndLater m a v w → IsAhead (moved h m a v) (moved h m a w)
