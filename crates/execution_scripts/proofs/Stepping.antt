-- What a step changes of the harts.
use Rattle.std.proofs.Common.{◌≡◌, ℕ, ◌%◌, ◌==◌, Bool, true, false, Option, Some, None, Result, Ok, Err, ap, refl, ◌∙◌}
use Rattle.pages.specs.declared.access.Fault.{Fault}
use Rattle.pages.specs.declared.access.Width.{Width}
use Rattle.pages.specs.Memory.{Memory, fetched, loaded, store_fault, value_at}
use Rattle.rv64_decode.specs.declared.ordering.AcquireRelease.{AcquireRelease}
use Rattle.round_schedule.specs.declared.access.Access.{Access}
use Rattle.round_schedule.specs.declared.access.Stepped.{Stepped}
use Rattle.round_schedule.specs.declared.access.Stepped.TheVariants.{Done, Stopped}
use Rattle.round_schedule.specs.declared.span.Span.{Span}
use Rattle.round_schedule.specs.Schedule.{SerialOutcome, StepOutcome}
use Rattle.hart_step.specs.declared.hart.Hart.{Hart}
use Rattle.hart_step.specs.Console.{ConsoleState}
use Rattle.hart_step.specs.Effect.{Action, Put, Jump, Branch, Read, Write, Order, Halt, Reserve, Conditional, Exchange, Call, action}
use Rattle.hart_step.specs.Numbers.{plus}
use Rattle.hart_step.specs.Registers.{reg}
use Rattle.hart_step.specs.SerialStep.{called, conditional_by, exchanged_by, is_reserved, reserved_by, serial_stepped, served, with_console}
use Rattle.hart_step.specs.Step.{branched, jumped, put_to, read_by, stopped_by, stopped_with, went_on, written_by}
use Rattle.hart_step.proofs.ByWord.{of_test, of_word}
use Rattle.execution.specs.Executions.{IsStep}

-- an instruction is counted, and a stop is not
pub record Counted (h : Hart) (answer : Stepped) (g : Hart) : Type 0 where
  pub goes : (a : Option Access) → answer ≡ Done a → (g.done ≡ plus h.done 1) × (g.stop ≡ h.stop)
  pub stops : (code : ℕ) → answer ≡ Stopped code → g.done ≡ h.done

goes_not : (code : ℕ) (a : Option Access) → Stopped code ≡ Done a → ⊥
goes_not code a e = cc

stops_not : (code : ℕ) (a : Option Access) → Done a ≡ Stopped code → ⊥
stops_not code a e = cc

went : (h : Hart) (b : Option Access) (rd v pc : ℕ) → Counted h (Done b) (went_on h rd v pc)
went h b rd v pc = record { goes = λ a e. (refl, refl); stops = λ code e. absurd (stops_not code b e) }

halted : (h : Hart) (k v : ℕ) → Counted h (Stopped k) (stopped_with h k v)
halted h k v = record { goes = λ a e. absurd (goes_not k a e); stops = λ code e. refl }

abbrev Counts : Hart → StepOutcome Hart → Type 0
Counts h o = Counted h o.answer o.hart

jump_counts : (h : Hart) (rd target : ℕ) → Counts h (jumped h rd target)
jump_counts h rd target = of_test (Counts h) (target % 4 == 0) _ _ (went h None rd _ target) (halted h 4 0)

branch_counts : (h : Hart) (taken : Bool) (target : ℕ) → Counts h (branched h taken target)
branch_counts h true target = jump_counts h 0 target
branch_counts h false target = went h None 0 0 _

read_counts : (h : Hart) (rd a : ℕ) (w : Width) (signed : Bool) (r : Result ℕ Fault) → Counts h (read_by h rd a w signed r)
read_counts h rd a w signed (Err f) = halted h _ 0
read_counts h rd a w signed (Ok v) = went h _ rd _ _

write_counts : (h : Hart) (a : ℕ) (w : Width) (v : ℕ) (f : Option Fault) → Counts h (written_by h a w v f)
write_counts h a w v (Some f) = halted h _ 0
write_counts h a w v None = went h _ 0 0 _

reserve_counts : (h : Hart) (rd a : ℕ) (w : Width) (o : AcquireRelease) (r : Result ℕ Fault) → Counts h (reserved_by h rd a w o r)
reserve_counts h rd a w o (Err f) = halted h _ 0
reserve_counts h rd a w o (Ok v) = went h _ rd _ _

conditional_counts : (h : Hart) (rd a : ℕ) (w : Width) (v : ℕ) (o : AcquireRelease) (holds : Bool) (f : Option Fault) → Counts h (conditional_by h rd a w v o holds f)
conditional_counts h rd a w v o holds (Some f) = halted h _ 0
conditional_counts h rd a w v o true None = went h _ rd 0 _
conditional_counts h rd a w v o false None = went h _ rd 1 _

exchange_counts : (h : Hart) (rd a : ℕ) (w : Width) (f : ℕ → ℕ) (o : AcquireRelease) (old : ℕ) (g : Option Fault) → Counts h (exchanged_by h rd a w f o old g)
exchange_counts h rd a w f o old (Some g) = halted h _ 0
exchange_counts h rd a w f o old None = went h _ rd _ _

abbrev CountsAll : Hart → SerialOutcome Hart ConsoleState → Type 0
CountsAll h o = Counted h o.answer o.hart

call_counts : (n : ℕ) (h : Hart) (c : ConsoleState) → CountsAll h (called n h c)
call_counts n h c = of_test (CountsAll h) (reg h.x 17 == 0) _ _ (halted h 1 _) (went h None 10 _ _)

served_counts : (m : Memory) (a : Action) (n : ℕ) (h : Hart) (c : ConsoleState) (r : Option Span) → CountsAll h (served a n h m c r)
served_counts m (Put rd v) n h c r = went h None rd v _
served_counts m (Jump rd t) n h c r = jump_counts h rd t
served_counts m (Branch b t) n h c r = branch_counts h b t
served_counts m (Read rd a w s) n h c r = read_counts h rd a w s (loaded m a w)
served_counts m (Write a w v) n h c r = write_counts h a w v (store_fault m a w)
served_counts m (Order before after mode) n h c r = went h _ 0 0 _
served_counts m (Halt code) n h c r = halted h code 0
served_counts m (Reserve rd a w o) n h c r = reserve_counts h rd a w o (loaded m a w)
served_counts m (Conditional rd a w v o) n h c r = conditional_counts h rd a w v o (is_reserved r a w) (store_fault m a w)
served_counts m (Exchange rd a w f o) n h c r = exchange_counts h rd a w f o (value_at m.bytes a w) (store_fault m a w)
served_counts m Call n h c r = call_counts n h c

step_counts : (m : Memory) (n : ℕ) (h : Hart) (c : ConsoleState) (r : Option Span) → CountsAll h (serial_stepped n h m c r)
unfolding serial_stepped
step_counts m n h c r =
    of_word (CountsAll h) (fetched m h.pc) (with_console c (stopped_by h 3)) (with_console c (stopped_by h 2)) (λ i. served (action i h.x h.pc) n h m c r)
    (halted h 3 0) (halted h 2 0) (λ i. served_counts m (action i h.x h.pc) n h c r)

pub step_counted : (image : Memory) (n : ℕ) (own : Option Span) (c d : ConsoleState) (h g : Hart) (answer : Stepped) → IsStep image n own c d h g answer → Counted h answer g
step_counted image n own c d h g answer s = record {
  goes = λ a e. let k = (step_counts s.seen n h c s.held).goes a (s.answers ∙ e) in (ap (λ (x : Hart). x.done) s.hart ∙ k.0, ap (λ (x : Hart). x.stop) s.hart ∙ k.1);
  stops = λ code e. ap (λ (x : Hart). x.done) s.hart ∙ (step_counts s.seen n h c s.held).stops code (s.answers ∙ e);
}
