-- What instructions never look at: how many a hart has done, and, but for the call for it, the number of the round.
use Rattle.std.specs.Prelude.{◌≡◌, ℕ, ◌==◌, ◌&&◌, Bool, true, false, List, Option, Some, None}
use Rattle.pages.specs.declared.access.Range.{Range}
use Rattle.pages.specs.Memory.{fetched}
use Rattle.round_schedule.specs.declared.access.Access.{Access}
use Rattle.round_schedule.specs.declared.access.Access.TheVariants.{Load, Store, LoadReserved, StoreConditional, Atomic, Fence}
use Rattle.round_schedule.specs.declared.access.Stepped.{Stepped}
use Rattle.round_schedule.specs.declared.access.Stepped.TheVariants.{Done, Waits, Stopped}
use Rattle.round_schedule.specs.declared.span.Span.{Span}
use Rattle.round_schedule.specs.Schedule.{StepOutcome, SerialOutcome, Words}
use Rattle.rv64_decode.specs.declared.instruction.Instr.{Instr}
use Rattle.rv64_decode.specs.declared.instruction.Instr.TheVariants.{Ecall}
use Rattle.hart_step.specs.declared.hart.Hart.{Hart}
use Rattle.hart_step.specs.Registers.{reg}
use Rattle.hart_step.specs.Step.{by_word}
use Rattle.hart_step.specs.Words.{words_of}

-- an access, and an answer, but for the number of instructions that the hart had done before
abbrev pub placeless : Access → Access
placeless (Load w p a r) = Load w 0 a r
placeless (Store w p a v) = Store w 0 a v
placeless (LoadReserved w o p a r) = LoadReserved w o 0 a r
placeless (StoreConditional w o p a v) = StoreConditional w o 0 a v
placeless (Atomic w o p a r v) = Atomic w o 0 a r v
placeless (Fence b a m p) = Fence b a m 0

abbrev pub placeless_answer : Stepped → Stepped
placeless_answer (Done None) = Done None
placeless_answer (Done (Some a)) = Done (Some (placeless a))
placeless_answer Waits = Waits
placeless_answer (Stopped code) = Stopped code

-- two outcomes that differ at most in places, and in what `view` leaves out of a hart
pub record SameOutcome {H K : Type 0} (view : H → K) (o q : StepOutcome H) : Type 0 where
  pub answer : placeless_answer o.answer ≡ placeless_answer q.answer
  pub hart : view o.hart ≡ view q.hart
  pub stores : o.stores ≡ q.stores

pub record SameSerial {H K C : Type 0} (view : H → K) (o q : SerialOutcome H C) : Type 0 where
  pub answer : placeless_answer o.answer ≡ placeless_answer q.answer
  pub hart : view o.hart ≡ view q.hart
  pub stores : o.stores ≡ q.stores
  pub console : o.console ≡ q.console

-- what instructions do depends on `view` of the hart alone; and in the serial phase the outcome of one that doesn't ask for the
-- round's number is the same in every round
pub record Forgets {H K C : Type 0} (w : Words H C) (view : H → K) (asks : H → List ℕ → Bool) : Type 0 where
  pub stopped : (h g : H) → view h ≡ view g → w.stopped h ≡ w.stopped g
  pub asking : (h g : H) (bs : List ℕ) → view h ≡ view g → asks h bs ≡ asks g bs
  pub steps : (h g : H) (bs : List ℕ) → view h ≡ view g → SameOutcome view (w.step h bs) (w.step g bs)
  pub serial_steps : (n m : ℕ) (h g : H) (bs : List ℕ) (c : C) (r : Option Span) → view h ≡ view g → asks h bs ≡ false →
      SameSerial view (w.serial_step n h bs c r) (w.serial_step m g bs c r)

-- ---- of RV64IMA

-- a hart but for its count
abbrev pub uncounted : Hart → Hart
uncounted h = record h { done = 0 }

abbrev pub is_ecall : Instr → Bool
is_ecall Ecall = true
is_ecall _ = false

-- whether a hart's next instruction is the call for the round's number: ECALL (manual, section 2.8) with 3 in x17
abbrev pub asks_number : List Range → Hart → List ℕ → Bool
asks_number code h bs = by_word (fetched (record { bytes = bs; code = code }) h.pc) false false (λ i. is_ecall i && (reg h.x 17 == 3))

-- instructions look at no count, and but for that call at no round's number
abbrev pub CountsAreForgotten : Type 0
CountsAreForgotten = (code : List Range) → Forgets (words_of code) uncounted (asks_number code)
