-- Maps of code: what may be loaded early from each instruction on, and which registers hold a number of the code there.
use Rattle.std.specs.Prelude.{◌≡◌, ℕ, ◌⊎◌, Bool, true, false, List, Option, Some}
use Rattle.pages.specs.Memory.{Memory}
use Rattle.round_schedule.specs.Accesses.{loads}
use Rattle.round_schedule.specs.Accesses.{stores as writing}
use Rattle.hart_step.specs.DecodedCode.{decoded}
use Rattle.memory_order.specs.Operations.{covers}
use Rattle.all_endings.specs.HartRuns.{IsPlaced}
use Rattle.all_endings.specs.Locality.{set_view, view}
use Rattle.all_endings.specs.RunStates.{Move, RunState, answers_to}
use Rattle.all_endings.specs.StoreLists.{Stored}
use Rattle.private_bytes.specs.Owners.{is_private}
use Rattle.private_bytes.specs.PrivateMoves.{ActsApart}
use Rattle.early_reads.specs.declared.early_point.LateKinds.{LateKinds}
use Rattle.early_reads.specs.Windows.{late_with, shuts}

pub record EarlyMap : Type 0 where
  -- the registers at the address of an instruction, as far as they are numbers of the code
  pub constants : ℕ → List (Option ℕ)
  -- by what is late and the address of an instruction, the bytes that may be loaded early from there on
  pub bytes : LateKinds → ℕ → ℕ → Bool

-- where both tell a register, they tell the same number
abbrev pub Agrees : List (Option ℕ) → List (Option ℕ) → Type 0
Agrees k v = (r n l : ℕ) → view k r ≡ Some n → view v r ≡ Some l → n ≡ l

-- a map is right along a move of hart h
pub record HoldsAlong (f : EarlyMap) (owns : ℕ → ℕ → Bool) (h : ℕ) (l : LateKinds) (a : RunState) (v : Move) : Type 0 where
  pub constants : Agrees (f.constants v.next) (set_view a.registers (answers_to v.instruction) v.result)
  -- a plain load, or an LR, of bytes that aren't the hart's own
  pub reads : (x : ℕ) → loads v.access ≡ true → writing v.access ≡ false → is_private owns h v.access ≡ false → covers v.access x ≡ true →
      f.bytes l a.pc x ≡ true
  -- what may be loaded early behind it, unless it shuts
  pub leads : (x : ℕ) → shuts l v.access ≡ false → f.bytes (late_with owns h l v.access) v.next x ≡ true → f.bytes l a.pc x ≡ true

-- a map is right for hart h: along each move from a state that agrees with it, or all bytes may be loaded early from there on
abbrev pub IsRight : EarlyMap → (ℕ → ℕ → Bool) → Memory → ℕ → Type 0
IsRight f owns image h =
    (l : LateKinds) (m : List Stored) (opening : ℕ → ℕ) (a : RunState) (v : Move) → decoded image a.pc ≡ Some v.instruction →
    ActsApart owns image h m opening (IsPlaced h m) a v → Agrees (f.constants a.pc) a.registers →
    ((x : ℕ) → f.bytes l a.pc x ≡ true) ⊎ HoldsAlong f owns h l a v

-- for what is late, a map leaves out some byte from an address on
abbrev pub LeavesOut : EarlyMap → ℕ → Type 0
LeavesOut f pc = (l : LateKinds) × (x : ℕ) × (f.bytes l pc x ≡ false)
