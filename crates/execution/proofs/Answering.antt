-- An instruction of the serial phase never waits, and what is done was decoded.
use Rattle.std.proofs.Common.{◌≡◌, ℕ, ◌%◌, ◌==◌, Bool, true, false, Option, Some, None, Result, Ok, Err, refl, ap, ◌∙◌}
use Rattle.pages.specs.declared.access.Fault.{Fault}
use Rattle.pages.specs.declared.access.Width.{Width}
use Rattle.pages.specs.Memory.{Memory, fetched, loaded, store_fault, value_at}
use Rattle.rv64_decode.specs.declared.instruction.Instr.{Instr}
use Rattle.rv64_decode.specs.declared.ordering.AcquireRelease.{AcquireRelease}
use Rattle.rv64_decode.specs.Table.{instr_of}
use Rattle.round_schedule.specs.declared.access.Access.{Access}
use Rattle.round_schedule.specs.Accesses.{read_of}
use Rattle.round_schedule.specs.declared.access.Stepped.{Stepped}
use Rattle.round_schedule.specs.declared.access.Stepped.TheVariants.{Done, Stopped, Waits}
use Rattle.round_schedule.specs.declared.span.Span.{Span}
use Rattle.round_schedule.specs.Schedule.{SerialOutcome}
use Rattle.hart_step.specs.declared.hart.Hart.{Hart}
use Rattle.hart_step.specs.DecodedCode.{decoded, instr_in}
use Rattle.hart_step.specs.Console.{ConsoleState}
use Rattle.hart_step.specs.Effect.{Action, Put, Jump, Branch, Read, Write, Order, Halt, Reserve, Conditional, Exchange, Call, action}
use Rattle.hart_step.specs.Registers.{reg}
use Rattle.hart_step.specs.SerialStep.{called, conditional_by, exchanged_by, is_reserved, reserved_by, serial_stepped, served, with_console}
use Rattle.hart_step.specs.Step.{branched, by_instr, by_word, jumped, read_by, stopped_by, written_by}
use Rattle.hart_step.proofs.ByWord.{of_test, of_word}
use Rattle.execution.specs.Executions.{IsLike, IsStep}
use Rattle.execution.specs.Progressing.{IsRead}

abbrev Goes_on : SerialOutcome Hart ConsoleState → Type 0
Goes_on o = o.answer ≡ Waits → ⊥

jump_goes : (b : Bool) (h : Hart) (rd target : ℕ) → (target % 4 == 0) ≡ b → (jumped h rd target).answer ≡ Waits → ⊥
jump_goes true h rd target e = λ w. cc
jump_goes false h rd target e = λ w. cc

branch_goes : (taken : Bool) (h : Hart) (target : ℕ) → (branched h taken target).answer ≡ Waits → ⊥
branch_goes true h target w = jump_goes (target % 4 == 0) h 0 target refl w
branch_goes false h target w = cc

read_goes : (h : Hart) (rd a : ℕ) (w : Width) (signed : Bool) (r : Result ℕ Fault) → (read_by h rd a w signed r).answer ≡ Waits → ⊥
read_goes h rd a w signed (Err f) e = cc
read_goes h rd a w signed (Ok v) e = cc

write_goes : (h : Hart) (a : ℕ) (w : Width) (v : ℕ) (f : Option Fault) → (written_by h a w v f).answer ≡ Waits → ⊥
write_goes h a w v (Some f) e = cc
write_goes h a w v None e = cc

reserve_goes : (h : Hart) (rd a : ℕ) (w : Width) (o : AcquireRelease) (r : Result ℕ Fault) → (reserved_by h rd a w o r).answer ≡ Waits → ⊥
reserve_goes h rd a w o (Err f) e = cc
reserve_goes h rd a w o (Ok v) e = cc

conditional_goes : (h : Hart) (rd a : ℕ) (w : Width) (v : ℕ) (o : AcquireRelease) (holds : Bool) (f : Option Fault) → (conditional_by h rd a w v o holds f).answer ≡ Waits → ⊥
conditional_goes h rd a w v o holds (Some f) e = cc
conditional_goes h rd a w v o true None e = cc
conditional_goes h rd a w v o false None e = cc

exchange_goes : (h : Hart) (rd a : ℕ) (w : Width) (f : ℕ → ℕ) (o : AcquireRelease) (old : ℕ) (g : Option Fault) → (exchanged_by h rd a w f o old g).answer ≡ Waits → ⊥
exchange_goes h rd a w f o old (Some g) e = cc
exchange_goes h rd a w f o old None e = cc

call_goes : (n : ℕ) (h : Hart) (c : ConsoleState) → Goes_on (called n h c)
call_goes n h c = of_test Goes_on (reg h.x 17 == 0) _ _ (λ w. cc) (λ w. cc)

served_goes : (m : Memory) (a : Action) (n : ℕ) (h : Hart) (c : ConsoleState) (r : Option Span) → Goes_on (served a n h m c r)
served_goes m (Put rd v) n h c r = λ w. cc
served_goes m (Jump rd t) n h c r = λ w. jump_goes (t % 4 == 0) h rd t refl w
served_goes m (Branch b t) n h c r = λ w. branch_goes b h t w
served_goes m (Read rd a w s) n h c r = λ e. read_goes h rd a w s (loaded m a w) e
served_goes m (Write a w v) n h c r = λ e. write_goes h a w v (store_fault m a w) e
served_goes m (Order before after mode) n h c r = λ w. cc
served_goes m (Halt code) n h c r = λ w. cc
served_goes m (Reserve rd a w o) n h c r = λ e. reserve_goes h rd a w o (loaded m a w) e
served_goes m (Conditional rd a w v o) n h c r = λ e. conditional_goes h rd a w v o (is_reserved r a w) (store_fault m a w) e
served_goes m (Exchange rd a w f o) n h c r = λ e. exchange_goes h rd a w f o (value_at m.bytes a w) (store_fault m a w) e
served_goes m Call n h c r = call_goes n h c

pub never_waits : (m : Memory) (n : ℕ) (h : Hart) (c : ConsoleState) (r : Option Span) → (serial_stepped n h m c r).answer ≡ Waits → ⊥
unfolding serial_stepped
never_waits m n h c r =
    of_word Goes_on (fetched m h.pc) (with_console c (stopped_by h 3)) (with_console c (stopped_by h 2)) (λ i. served (action i h.x h.pc) n h m c r)
    (λ w. cc) (λ w. cc) (λ i. served_goes m (action i h.x h.pc) n h c r)

-- an instruction that stops its hart leaves the console as it was
abbrev Quiet : ConsoleState → ℕ → SerialOutcome Hart ConsoleState → Type 0
Quiet c code o = o.answer ≡ Stopped code → o.console ≡ c

served_quiet : (m : Memory) (a : Action) (n : ℕ) (h : Hart) (c : ConsoleState) (r : Option Span) (code : ℕ) → Quiet c code (served a n h m c r)
served_quiet m (Put rd v) n h c r code = λ e. refl
served_quiet m (Jump rd t) n h c r code = λ e. refl
served_quiet m (Branch b t) n h c r code = λ e. refl
served_quiet m (Read rd a w s) n h c r code = λ e. refl
served_quiet m (Write a w v) n h c r code = λ e. refl
served_quiet m (Order before after mode) n h c r code = λ e. refl
served_quiet m (Halt k) n h c r code = λ e. refl
served_quiet m (Reserve rd a w o) n h c r code = λ e. refl
served_quiet m (Conditional rd a w v o) n h c r code = λ e. refl
served_quiet m (Exchange rd a w f o) n h c r code = λ e. refl
served_quiet m Call n h c r code = of_test (Quiet c code) (reg h.x 17 == 0) _ _ (λ e. refl) (λ e. cc)

pub stopped_console : (n : ℕ) (h : Hart) (m : Memory) (c : ConsoleState) (r : Option Span) (code : ℕ) → (serial_stepped n h m c r).answer ≡ Stopped code → (serial_stepped n h m c r).console ≡ c
unfolding serial_stepped
stopped_console n h m c r code =
    of_word (Quiet c code) (fetched m h.pc) (with_console c (stopped_by h 3)) (with_console c (stopped_by h 2)) (λ i. served (action i h.x h.pc) n h m c r)
    (λ e. refl) (λ e. refl) (λ i. served_quiet m (action i h.x h.pc) n h c r code)

-- and so does one that reads a number
abbrev ReadsQuietly : ConsoleState → ℕ → SerialOutcome Hart ConsoleState → Type 0
ReadsQuietly c v o = (a : Access) → o.answer ≡ Done (Some a) → read_of a ≡ Some v → o.console ≡ c

served_reading : (m : Memory) (a : Action) (n : ℕ) (h : Hart) (c : ConsoleState) (r : Option Span) (v : ℕ) → ReadsQuietly c v (served a n h m c r)
served_reading m (Put rd x) n h c r v = λ a e is. refl
served_reading m (Jump rd t) n h c r v = λ a e is. refl
served_reading m (Branch b t) n h c r v = λ a e is. refl
served_reading m (Read rd x w s) n h c r v = λ a e is. refl
served_reading m (Write x w y) n h c r v = λ a e is. refl
served_reading m (Order before after mode) n h c r v = λ a e is. refl
served_reading m (Halt k) n h c r v = λ a e is. refl
served_reading m (Reserve rd x w o) n h c r v = λ a e is. refl
served_reading m (Conditional rd x w y o) n h c r v = λ a e is. refl
served_reading m (Exchange rd x w f o) n h c r v = λ a e is. refl
served_reading m Call n h c r v = of_test (ReadsQuietly c v) (reg h.x 17 == 0) _ _ (λ a e is. refl) (λ a e is. cc)

reading_console : (n : ℕ) (h : Hart) (m : Memory) (c : ConsoleState) (r : Option Span) (v : ℕ) → ReadsQuietly c v (serial_stepped n h m c r)
unfolding serial_stepped
reading_console n h m c r v =
    of_word (ReadsQuietly c v) (fetched m h.pc) (with_console c (stopped_by h 3)) (with_console c (stopped_by h 2)) (λ i. served (action i h.x h.pc) n h m c r)
    (λ a e is. refl) (λ a e is. refl) (λ i. served_reading m (action i h.x h.pc) n h c r v)

pub step_reading_console : (image : Memory) (n : ℕ) (own : Option Span) (c d : ConsoleState) (h g : Hart) (answer : Stepped) (v : ℕ) →
    IsStep image n own c d h g answer → IsRead answer v → d ≡ c
step_reading_console image n own c d h g answer v s is = s.console ∙ reading_console n h s.seen c s.held v is.0 (s.answers ∙ is.1) is.2

undecoded : (w : Option ℕ) (h : Hart) (c : ConsoleState) (f : Instr → SerialOutcome Hart ConsoleState) (a : Option Access) →
    instr_in w ≡ None → (by_word w (with_console c (stopped_by h 3)) (with_console c (stopped_by h 2)) f).answer ≡ Done a → ⊥
undecoded None h c f a e d = cc
undecoded (Some v) h c f a e d = of_none (instr_of v) e d
  where
    of_none : (i : Option Instr) → i ≡ None → (by_instr i (with_console c (stopped_by h 2)) f).answer ≡ Done a → ⊥
    of_none None e d = cc
    of_none (Some i) e d = cc

pub done_was_decoded : (m : Memory) (n : ℕ) (h : Hart) (c : ConsoleState) (r : Option Span) (a : Option Access) → decoded m h.pc ≡ None → (serial_stepped n h m c r).answer ≡ Done a → ⊥
unfolding serial_stepped decoded
done_was_decoded m n h c r a e d = undecoded (fetched m h.pc) h c (λ i. served (action i h.x h.pc) n h m c r) a e d

pub decoded_like : (image m : Memory) (pc : ℕ) → IsLike image m → decoded m pc ≡ decoded image pc
unfolding decoded
decoded_like image m pc like = ap instr_in (like.words pc)

pub step_was_decoded : (image : Memory) (n : ℕ) (own : Option Span) (c d : ConsoleState) (h g : Hart) (a : Option Access) → IsStep image n own c d h g (Done a) → decoded image h.pc ≡ None → ⊥
step_was_decoded image n own c d h g a s e = done_was_decoded s.seen n h c s.held a (decoded_like image s.seen h.pc s.like ∙ e) s.answers

pub step_never_waits : (image : Memory) (n : ℕ) (own : Option Span) (c d : ConsoleState) (h g : Hart) → IsStep image n own c d h g Waits → ⊥
step_never_waits image n own c d h g s = never_waits s.seen n h c s.held s.answers

pub like_itself : (m : Memory) → IsLike m m
like_itself m = record { size = refl; code = refl; words = λ pc. refl }
