-- Each instruction stops its hart with a code of 1 to 10, or leaves why it stopped as it was.
use Rattle.std.proofs.Common.{◌≡◌, ℕ, ◌%◌, ◌==◌, Bool, true, false, List, Option, Some, None, Result, Ok, Err, refl, subst, sym}
use Rattle.pages.specs.declared.access.Fault.{Fault}
use Rattle.pages.specs.declared.access.Fault.TheVariants.{LoadMisaligned, LoadOutside, StoreMisaligned, StoreOutside, StoreToCode}
use Rattle.pages.specs.declared.access.Width.{Width}
use Rattle.pages.specs.Memory.{Memory, value_at, loaded, store_fault, fetched}
use Rattle.round_schedule.specs.declared.span.Span.{Span}
use Rattle.round_schedule.specs.Accesses.{is_full_fence}
use Rattle.round_schedule.specs.Schedule.{StepOutcome, SerialOutcome}
use Rattle.rv64_decode.specs.declared.instruction.Instr.{Instr}
use Rattle.rv64_decode.specs.declared.instruction.Instr.TheVariants.{Ebreak}
use Rattle.rv64_decode.specs.declared.ordering.AcquireRelease.{AcquireRelease}
use Rattle.hart_step.specs.declared.hart.Hart.{Hart}
use Rattle.hart_step.specs.Console.{ConsoleState}
use Rattle.hart_step.specs.Effect.{Action, Put, Jump, Branch, Read, Write, Order, Halt, Reserve, Conditional, Exchange, Call, action}
use Rattle.hart_step.specs.Registers.{reg}
use Rattle.hart_step.specs.SerialStep.{reserved_by, is_reserved, conditional_by, exchanged_by, served, serial_stepped}
use Rattle.hart_step.specs.Step.{fault_code, stopped_with, performed, stepped, read_by, written_by}
use Rattle.hart_step.specs.Stops.{StopsFit, has_stop}
use Rattle.hart_step.proofs.ByWord.{of_test, of_word}

abbrev Fits : StepOutcome Hart → Type 0
Fits o = has_stop o.hart.stop ≡ true

abbrev FitsSerial : SerialOutcome Hart ConsoleState → Type 0
FitsSerial o = has_stop o.hart.stop ≡ true

fault_fits : (h : Hart) (f : Fault) → has_stop (stopped_with h (fault_code f) 0).stop ≡ true
fault_fits h LoadMisaligned = refl
fault_fits h LoadOutside = refl
fault_fits h StoreMisaligned = refl
fault_fits h StoreOutside = refl
fault_fits h StoreToCode = refl

-- the code with which an action halts
abbrev HaltFits : Action → Type 0
HaltFits (Halt code) = code ≡ 10
HaltFits _ = Unit {0}

halt_fits : (i : Instr) (x : List ℕ) (pc : ℕ) → HaltFits (action i x pc)
halt_fits Ebreak x pc = refl
halt_fits _ x pc = tt

read_fits : (h : Hart) (rd a : ℕ) (w : Width) (signed : Bool) (r : Result ℕ Fault) → has_stop h.stop ≡ true → Fits (read_by h rd a w signed r)
read_fits h rd a w signed (Err f) e = fault_fits h f
read_fits h rd a w signed (Ok v) e = e

written_fits : (h : Hart) (a : ℕ) (w : Width) (v : ℕ) (f : Option Fault) → has_stop h.stop ≡ true → Fits (written_by h a w v f)
written_fits h a w v (Some f) e = fault_fits h f
written_fits h a w v None e = e

reserved_fits : (h : Hart) (rd a : ℕ) (w : Width) (ordering : AcquireRelease) (r : Result ℕ Fault) → has_stop h.stop ≡ true → Fits (reserved_by h rd a w ordering r)
reserved_fits h rd a w ordering (Err f) e = fault_fits h f
reserved_fits h rd a w ordering (Ok v) e = e

conditional_fits : (h : Hart) (rd a : ℕ) (w : Width) (v : ℕ) (ordering : AcquireRelease) (holds : Bool) (f : Option Fault) → has_stop h.stop ≡ true →
    Fits (conditional_by h rd a w v ordering holds f)
conditional_fits h rd a w v ordering holds (Some f) e = fault_fits h f
conditional_fits h rd a w v ordering true None e = e
conditional_fits h rd a w v ordering false None e = e

exchanged_fits : (h : Hart) (rd a : ℕ) (w : Width) (f : ℕ → ℕ) (ordering : AcquireRelease) (old : ℕ) (fault : Option Fault) → has_stop h.stop ≡ true →
    Fits (exchanged_by h rd a w f ordering old fault)
exchanged_fits h rd a w f ordering old (Some fault) e = fault_fits h fault
exchanged_fits h rd a w f ordering old None e = e

halted_fits : (h : Hart) (code : ℕ) → code ≡ 10 → has_stop (stopped_with h code 0).stop ≡ true
halted_fits h code is = let P : ℕ → Type 0 = λ c. has_stop (stopped_with h c 0).stop ≡ true in subst P (sym is) refl

performed_fits : (h : Hart) (m : Memory) (a : Action) → HaltFits a → has_stop h.stop ≡ true → Fits (performed a h m)
performed_fits h m (Put rd v) f e = e
performed_fits h m (Jump rd t) f e = of_test Fits (t % 4 == 0) _ _ e refl
performed_fits h m (Branch b t) f e = of_test Fits b _ _ (of_test Fits (t % 4 == 0) _ _ e refl) e
performed_fits h m (Read rd a w s) f e = read_fits h rd a w s (loaded m a w) e
performed_fits h m (Write a w v) f e = written_fits h a w v (store_fault m a w) e
performed_fits h m (Order before after mode) f e = of_test Fits (is_full_fence before after mode) _ _ e e
performed_fits h m (Halt code) f e = halted_fits h code f
performed_fits h m (Reserve rd a w ordering) f e = e
performed_fits h m (Conditional rd a w v ordering) f e = e
performed_fits h m (Exchange rd a w g ordering) f e = e
performed_fits h m Call f e = e

step_fits : (h : Hart) (m : Memory) → has_stop h.stop ≡ true → Fits (stepped h m)
unfolding stepped
step_fits h m e = of_word Fits (fetched m h.pc) _ _ _ refl refl (λ i. performed_fits h m (action i h.x h.pc) (halt_fits i h.x h.pc) e)

served_fits : (n : ℕ) (h : Hart) (m : Memory) (c : ConsoleState) (r : Option Span) (a : Action) → HaltFits a → has_stop h.stop ≡ true → FitsSerial (served a n h m c r)
served_fits n h m c r (Order before after mode) f e = e
served_fits n h m c r (Reserve rd a w ordering) f e = reserved_fits h rd a w ordering (loaded m a w) e
served_fits n h m c r (Conditional rd a w v ordering) f e = conditional_fits h rd a w v ordering (is_reserved r a w) (store_fault m a w) e
served_fits n h m c r (Exchange rd a w g ordering) f e = exchanged_fits h rd a w g ordering (value_at m.bytes a w) (store_fault m a w) e
served_fits n h m c r Call f e = of_test FitsSerial (reg h.x 17 == 0) _ _ refl e
served_fits n h m c r (Put rd v) f e = performed_fits h m (Put rd v) f e
served_fits n h m c r (Jump rd t) f e = performed_fits h m (Jump rd t) f e
served_fits n h m c r (Branch b t) f e = performed_fits h m (Branch b t) f e
served_fits n h m c r (Read rd a w s) f e = performed_fits h m (Read rd a w s) f e
served_fits n h m c r (Write a w v) f e = performed_fits h m (Write a w v) f e
served_fits n h m c r (Halt code) f e = performed_fits h m (Halt code) f e

serial_fits : (n : ℕ) (h : Hart) (m : Memory) (c : ConsoleState) (r : Option Span) → has_stop h.stop ≡ true → FitsSerial (serial_stepped n h m c r)
unfolding serial_stepped
serial_fits n h m c r e = of_word FitsSerial (fetched m h.pc) _ _ _ refl refl (λ i. served_fits n h m c r (action i h.x h.pc) (halt_fits i h.x h.pc) e)

pub stops_fit : StopsFit
stops_fit code = record {
  steps = λ h bs e. step_fits h (record { bytes = bs; code = code }) e;
  serial_steps = λ n h bs c r e. serial_fits n h (record { bytes = bs; code = code }) c r e;
}
