-- An instruction that stops its hart leaves the registers and the pc as they were.
use Rattle.std.proofs.Common.{◌≡◌, ℕ, ◌%◌, ◌==◌, Bool, true, false, Option, Some, None, Result, Ok, Err, refl, ap, ◌∙◌, is_some}
use Rattle.pages.specs.declared.access.Fault.{Fault}
use Rattle.pages.specs.declared.access.Width.{Width}
use Rattle.pages.specs.Memory.{Memory, fetched, loaded, store_fault, value_at}
use Rattle.rv64_decode.specs.declared.ordering.AcquireRelease.{AcquireRelease}
use Rattle.round_schedule.specs.declared.access.Stepped.TheVariants.{Stopped}
use Rattle.round_schedule.specs.declared.span.Span.{Span}
use Rattle.round_schedule.specs.Schedule.{SerialOutcome, StepOutcome}
use Rattle.hart_step.specs.declared.hart.Hart.{Hart}
use Rattle.hart_step.specs.Console.{ConsoleState}
use Rattle.hart_step.specs.Effect.{Action, Put, Jump, Branch, Read, Write, Order, Halt, Reserve, Conditional, Exchange, Call, action}
use Rattle.hart_step.specs.Registers.{reg}
use Rattle.hart_step.specs.SerialStep.{called, conditional_by, exchanged_by, is_reserved, reserved_by, serial_stepped, served, with_console}
use Rattle.hart_step.specs.Step.{branched, jumped, read_by, stopped_by, written_by}
use Rattle.hart_step.proofs.ByWord.{of_test, of_word}
use Rattle.execution.specs.Executions.{IsStep}

abbrev Still : Hart → ℕ → StepOutcome Hart → Type 0
Still h code o = o.answer ≡ Stopped code → (o.hart.x ≡ h.x) × (o.hart.pc ≡ h.pc) × (is_some o.hart.stop ≡ true)

abbrev Rests : Hart → ℕ → SerialOutcome Hart ConsoleState → Type 0
Rests h code o = o.answer ≡ Stopped code → (o.hart.x ≡ h.x) × (o.hart.pc ≡ h.pc) × (is_some o.hart.stop ≡ true)

jump_still : (h : Hart) (code rd target : ℕ) → Still h code (jumped h rd target)
jump_still h code rd target = of_test (Still h code) (target % 4 == 0) _ _ (λ e. absurd (cc)) (λ e. (refl, refl, refl))

branch_still : (h : Hart) (code : ℕ) (taken : Bool) (target : ℕ) → Still h code (branched h taken target)
branch_still h code taken target = of_test (Still h code) taken _ _ (jump_still h code 0 target) (λ e. absurd (cc))

read_still : (h : Hart) (code rd a : ℕ) (w : Width) (signed : Bool) (r : Result ℕ Fault) → Still h code (read_by h rd a w signed r)
read_still h code rd a w signed (Err f) e = (refl, refl, refl)
read_still h code rd a w signed (Ok v) e = absurd (cc)

write_still : (h : Hart) (code a : ℕ) (w : Width) (v : ℕ) (f : Option Fault) → Still h code (written_by h a w v f)
write_still h code a w v (Some f) e = (refl, refl, refl)
write_still h code a w v None e = absurd (cc)

reserve_still : (h : Hart) (code rd a : ℕ) (w : Width) (o : AcquireRelease) (r : Result ℕ Fault) → Still h code (reserved_by h rd a w o r)
reserve_still h code rd a w o (Err f) e = (refl, refl, refl)
reserve_still h code rd a w o (Ok v) e = absurd (cc)

conditional_still : (h : Hart) (code rd a : ℕ) (w : Width) (v : ℕ) (o : AcquireRelease) (holds : Bool) (f : Option Fault) → Still h code (conditional_by h rd a w v o holds f)
conditional_still h code rd a w v o holds (Some f) e = (refl, refl, refl)
conditional_still h code rd a w v o true None e = absurd (cc)
conditional_still h code rd a w v o false None e = absurd (cc)

exchange_still : (h : Hart) (code rd a : ℕ) (w : Width) (f : ℕ → ℕ) (o : AcquireRelease) (old : ℕ) (g : Option Fault) → Still h code (exchanged_by h rd a w f o old g)
exchange_still h code rd a w f o old (Some g) e = (refl, refl, refl)
exchange_still h code rd a w f o old None e = absurd (cc)

call_rests : (n : ℕ) (h : Hart) (c : ConsoleState) (code : ℕ) → Rests h code (called n h c)
call_rests n h c code = of_test (Rests h code) (reg h.x 17 == 0) _ _ (λ e. (refl, refl, refl)) (λ e. absurd (cc))

served_rests : (m : Memory) (a : Action) (n : ℕ) (h : Hart) (c : ConsoleState) (r : Option Span) (code : ℕ) → Rests h code (served a n h m c r)
served_rests m (Put rd v) n h c r code = λ e. absurd (cc)
served_rests m (Jump rd t) n h c r code = jump_still h code rd t
served_rests m (Branch b t) n h c r code = branch_still h code b t
served_rests m (Read rd a w s) n h c r code = read_still h code rd a w s (loaded m a w)
served_rests m (Write a w v) n h c r code = write_still h code a w v (store_fault m a w)
served_rests m (Order before after mode) n h c r code = λ e. absurd (cc)
served_rests m (Halt k) n h c r code = λ e. (refl, refl, refl)
served_rests m (Reserve rd a w o) n h c r code = reserve_still h code rd a w o (loaded m a w)
served_rests m (Conditional rd a w v o) n h c r code = conditional_still h code rd a w v o (is_reserved r a w) (store_fault m a w)
served_rests m (Exchange rd a w f o) n h c r code = exchange_still h code rd a w f o (value_at m.bytes a w) (store_fault m a w)
served_rests m Call n h c r code = call_rests n h c code

stepped_rests : (m : Memory) (n : ℕ) (h : Hart) (c : ConsoleState) (r : Option Span) (code : ℕ) → Rests h code (serial_stepped n h m c r)
unfolding serial_stepped
stepped_rests m n h c r code =
    of_word (Rests h code) (fetched m h.pc) (with_console c (stopped_by h 3)) (with_console c (stopped_by h 2)) (λ i. served (action i h.x h.pc) n h m c r)
    (λ e. (refl, refl, refl)) (λ e. (refl, refl, refl)) (λ i. served_rests m (action i h.x h.pc) n h c r code)

pub stop_rests : (image : Memory) (n : ℕ) (own : Option Span) (c d : ConsoleState) (h g : Hart) (code : ℕ) → IsStep image n own c d h g (Stopped code) →
    (g.x ≡ h.x) × (g.pc ≡ h.pc) × (is_some g.stop ≡ true)
stop_rests image n own c d h g code s =
    let r = stepped_rests s.seen n h c s.held code s.answers in
    (ap (λ (k : Hart). k.x) s.hart ∙ r.0, ap (λ (k : Hart). k.pc) s.hart ∙ r.1, ap (λ (k : Hart). is_some k.stop) s.hart ∙ r.2)
