-- What an instruction does in the parallel phase, it does in the serial phase too.
use Rattle.std.proofs.Common.{◌≡◌, ℕ, Bool, true, false, if◌then◌else◌, Option, Some, None, refl, ap}
use Rattle.pages.specs.Memory.{Memory, fetched}
use Rattle.rv64_decode.specs.declared.instruction.Instr.{Instr}
use Rattle.rv64_decode.specs.declared.ordering.FenceMode.{FenceMode}
use Rattle.rv64_decode.specs.declared.ordering.FenceSet.{FenceSet}
use Rattle.rv64_decode.specs.Table.{instr_of}
use Rattle.round_schedule.specs.declared.access.Stepped.TheVariants.{Waits}
use Rattle.round_schedule.specs.declared.span.Span.{Span}
use Rattle.round_schedule.specs.Accesses.{is_full_fence}
use Rattle.round_schedule.specs.Schedule.{StepOutcome, SerialOutcome}
use Rattle.hart_step.specs.declared.hart.Hart.{Hart}
use Rattle.hart_step.specs.Console.{ConsoleState}
use Rattle.hart_step.specs.Effect.{Action, Put, Jump, Branch, Read, Write, Order, Halt, Reserve, Conditional, Exchange, Call, action}
use Rattle.hart_step.specs.SerialStep.{serial_stepped, served, with_console}
use Rattle.hart_step.specs.Step.{by_instr, by_word, fenced, performed, stepped, stopped_by, waiting}

ordered_alone : (b : Bool) (h : Hart) (before after : FenceSet) (mode : FenceMode) → ((if b then waiting h else fenced h before after mode).answer ≡ Waits → ⊥) →
    fenced h before after mode ≡ (if b then waiting h else fenced h before after mode)
ordered_alone true h before after mode goes = absurd (goes refl)
ordered_alone false h before after mode goes = refl

served_alone : (a : Action) (n : ℕ) (h : Hart) (m : Memory) (c : ConsoleState) (r : Option Span) → ((performed a h m).answer ≡ Waits → ⊥) → served a n h m c r ≡ with_console c (performed a h m)
served_alone (Put rd v) n h m c r goes = refl
served_alone (Jump rd t) n h m c r goes = refl
served_alone (Branch b t) n h m c r goes = refl
served_alone (Read rd a w s) n h m c r goes = refl
served_alone (Write a w v) n h m c r goes = refl
served_alone (Order before after mode) n h m c r goes = ap (with_console c) (ordered_alone (is_full_fence before after mode) h before after mode goes)
served_alone (Halt code) n h m c r goes = refl
served_alone (Reserve rd a w o) n h m c r goes = absurd (goes refl)
served_alone (Conditional rd a w v o) n h m c r goes = absurd (goes refl)
served_alone (Exchange rd a w f o) n h m c r goes = absurd (goes refl)
served_alone Call n h m c r goes = absurd (goes refl)

instr_alone : (i : Option Instr) (h : Hart) (c : ConsoleState) (f : Instr → StepOutcome Hart) (g : Instr → SerialOutcome Hart ConsoleState) →
    ((j : Instr) → ((f j).answer ≡ Waits → ⊥) → g j ≡ with_console c (f j)) →
    ((by_instr i (stopped_by h 2) f).answer ≡ Waits → ⊥) → by_instr i (with_console c (stopped_by h 2)) g ≡ with_console c (by_instr i (stopped_by h 2) f)
instr_alone None h c f g each goes = refl
instr_alone (Some i) h c f g each goes = each i goes

word_alone : (w : Option ℕ) (h : Hart) (c : ConsoleState) (f : Instr → StepOutcome Hart) (g : Instr → SerialOutcome Hart ConsoleState) →
    ((j : Instr) → ((f j).answer ≡ Waits → ⊥) → g j ≡ with_console c (f j)) →
    ((by_word w (stopped_by h 3) (stopped_by h 2) f).answer ≡ Waits → ⊥) →
    by_word w (with_console c (stopped_by h 3)) (with_console c (stopped_by h 2)) g ≡ with_console c (by_word w (stopped_by h 3) (stopped_by h 2) f)
word_alone None h c f g each goes = refl
word_alone (Some w) h c f g each goes = instr_alone (instr_of w) h c f g each goes

pub serially_alone : (m : Memory) (n : ℕ) (h : Hart) (c : ConsoleState) (r : Option Span) → ((stepped h m).answer ≡ Waits → ⊥) → serial_stepped n h m c r ≡ with_console c (stepped h m)
unfolding stepped serial_stepped
serially_alone m n h c r goes =
    word_alone (fetched m h.pc) h c (λ i. performed (action i h.x h.pc) h m) (λ i. served (action i h.x h.pc) n h m c r) (λ i. served_alone (action i h.x h.pc) n h m c r) goes
