-- What memory lets be done lies in it; and what an instruction leaves that is known.
use Rattle.std.proofs.Common.{◌≡◌, ℕ, ◌+◌, ◌≤◌, ◌%◌, ◌==◌, Bool, true, false, if◌then◌else◌, nat_le, length, Option, Some, None, Result, Ok, Err, refl, ap, arith}
use Rattle.std.proofs.lemmas.Bool.Decides.{nat_tests}
use Rattle.pages.specs.declared.access.Fault.{Fault}
use Rattle.pages.specs.declared.access.Fault.TheVariants.{LoadMisaligned, LoadOutside, StoreMisaligned, StoreOutside, StoreToCode}
use Rattle.pages.specs.declared.access.Width.{Width}
use Rattle.pages.specs.Memory.{Memory, any_code, fetched, loaded, store_fault, value_at, width_bytes}
use Rattle.rv64_decode.specs.declared.instruction.Instr.{Instr}
use Rattle.rv64_decode.specs.Table.{instr_of}
use Rattle.round_schedule.specs.Schedule.{StepOutcome}
use Rattle.hart_step.specs.declared.hart.Hart.{Hart}
use Rattle.hart_step.specs.DecodedCode.{decoded, instr_in}
use Rattle.hart_step.specs.Effect.{action}
use Rattle.hart_step.specs.Step.{by_instr, by_word, performed, stepped, stopped_by}

at_most : (a b : ℕ) → nat_le a b ≡ true → a ≤ b
at_most a b e = grind (arith, nat_tests)

read_tests : (b t : Bool) (n k : ℕ) → ◌≡◌ {A = Result ℕ Fault} (if b then (if t then Ok n else Err LoadOutside) else Err LoadMisaligned) (Ok k) → t ≡ true
read_tests true true n k e = refl
read_tests true false n k e = absurd (cc)
read_tests false t n k e = absurd (cc)

pub read_within : (m : Memory) (a : ℕ) (w : Width) (k : ℕ) → loaded m a w ≡ Ok k → a + width_bytes w ≤ length m.bytes
unfolding loaded
read_within m a w k e = at_most _ _ (read_tests (a % width_bytes w == 0) (nat_le (a + width_bytes w) (length m.bytes)) (value_at m.bytes a w) k e)

write_tests : (b t u : Bool) → ◌≡◌ {A = Option Fault} (if b then (if t then (if u then Some StoreToCode else None) else Some StoreOutside) else Some StoreMisaligned) None → t ≡ true
write_tests true true u e = refl
write_tests true false u e = absurd (cc)
write_tests false t u e = absurd (cc)

pub write_within : (m : Memory) (a : ℕ) (w : Width) → store_fault m a w ≡ None → a + width_bytes w ≤ length m.bytes
unfolding store_fault
write_within m a w e = at_most _ _ (write_tests (a % width_bytes w == 0) (nat_le (a + width_bytes w) (length m.bytes)) (any_code m.code a (width_bytes w)) e)

pub fetched_none : (m : Memory) (pc : ℕ) → fetched m pc ≡ None → decoded m pc ≡ None
unfolding decoded
fetched_none m pc e = ap instr_in e

pub fetched_some : (m : Memory) (pc w : ℕ) → fetched m pc ≡ Some w → decoded m pc ≡ instr_of w
unfolding decoded
fetched_some m pc w e = ap instr_in e

by_fetched : (o : Option ℕ) (i : Instr) (x y : StepOutcome Hart) (f : Instr → StepOutcome Hart) → instr_in o ≡ Some i → by_word o x y f ≡ f i
by_fetched None i x y f e = absurd (cc)
by_fetched (Some w) i x y f e = ap (λ (o : Option Instr). by_instr o y f) e

pub step_known : (m : Memory) (h : Hart) (i : Instr) → decoded m h.pc ≡ Some i → stepped h m ≡ performed (action i h.x h.pc) h m
unfolding decoded stepped
step_known m h i e = by_fetched (fetched m h.pc) i (stopped_by h 3) (stopped_by h 2) (λ j. performed (action j h.x h.pc) h m) e
