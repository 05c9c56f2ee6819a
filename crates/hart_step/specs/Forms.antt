-- The form of an access: which widths, addresses and numbers its kind has.
use Rattle.std.specs.Prelude.{◌≡◌, ℕ, ◌*◌, ◌%◌, ◌^◌, ◌<◌, Bool, true, false, List, length, Option, Some, None}
use Rattle.pages.specs.declared.access.Width.{Width}
use Rattle.pages.specs.declared.access.Width.TheVariants.{W1, W2, W4, W8}
use Rattle.pages.specs.Memory.{IsBytes, width_bytes}
use Rattle.round_schedule.specs.declared.access.Access.{Access}
use Rattle.round_schedule.specs.declared.access.Access.TheVariants.{Load, Store, LoadReserved, StoreConditional, Atomic, Fence}
use Rattle.round_schedule.specs.declared.access.Stepped.TheVariants.{Done}
use Rattle.round_schedule.specs.declared.span.Span.{Span}
use Rattle.round_schedule.specs.Schedule.{Words}

-- a word or a doubleword, as an LR, an SC or an AMO has (manual, chapter 8)
abbrev pub is_atomic_width : Width → Bool
is_atomic_width W1 = false
is_atomic_width W2 = false
is_atomic_width W4 = true
is_atomic_width W8 = true

-- the bytes lie at a multiple of their number, below the limit
abbrev pub LiesAt : ℕ → Width → ℕ → Type 0
LiesAt limit w a = (a % width_bytes w ≡ 0) × (a < limit)

-- a number of that many bytes
abbrev pub Fills : Width → ℕ → Type 0
Fills w v = v < 2 ^ (8 * width_bytes w)

abbrev pub FillsIf : Width → Option ℕ → Type 0
FillsIf w None = Unit {0}
FillsIf w (Some v) = Fills w v

-- of an access to addresses below a limit
abbrev pub Formed : ℕ → Access → Type 0
Formed limit (Load w p a r) = LiesAt limit w a × Fills w r
Formed limit (Store w p a v) = LiesAt limit w a × Fills w v
Formed limit (LoadReserved w o p a r) = (is_atomic_width w ≡ true) × LiesAt limit w a × Fills w r
Formed limit (StoreConditional w o p a v) = (is_atomic_width w ≡ true) × LiesAt limit w a × FillsIf w v
Formed limit (Atomic w o p a r v) = (is_atomic_width w ≡ true) × LiesAt limit w a × Fills w r × Fills w v
Formed limit (Fence b a m p) = Unit {0}

-- each access that an instruction leaves has its form, with addresses below the number of bytes
pub record Forms {H C : Type 0} (w : Words H C) : Type 0 where
  pub step_forms : (h : H) (bs : List ℕ) (a : Access) → IsBytes bs → (w.step h bs).answer ≡ Done (Some a) → Formed (length bs) a
  pub serial_forms : (n : ℕ) (h : H) (bs : List ℕ) (c : C) (r : Option Span) (a : Access) → IsBytes bs → (w.serial_step n h bs c r).answer ≡ Done (Some a) → Formed (length bs) a
