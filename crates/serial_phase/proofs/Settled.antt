-- An instruction of a turn makes one store at most, and one that is not done leaves memory and the console.
use Rattle.std.proofs.Common.{◌≡◌, ℕ, ◌≤◌, ◌==◌, ◌%◌, List, [], length, Bool, true, false, cond, Option, Some, None, Result, Ok, Err, refl, arith}
use Rattle.pages.specs.declared.access.Fault.{Fault}
use Rattle.pages.specs.declared.access.Store.{Store}
use Rattle.pages.specs.declared.access.Width.{Width}
use Rattle.pages.specs.Memory.{Memory, loaded, store_fault, fetched, value_at}
use Rattle.rv64_decode.specs.declared.instruction.Instr.{Instr}
use Rattle.rv64_decode.specs.declared.ordering.AcquireRelease.{AcquireRelease}
use Rattle.rv64_decode.specs.Table.{instr_of}
use Rattle.round_schedule.specs.declared.access.Stepped.{Stepped}
use Rattle.round_schedule.specs.declared.access.Stepped.TheVariants.{Done, Waits, Stopped}
use Rattle.round_schedule.specs.declared.span.Span.{Span}
use Rattle.round_schedule.specs.Schedule.{SerialOutcome, StepOutcome}
use Rattle.hart_step.specs.declared.hart.Hart.{Hart}
use Rattle.hart_step.specs.Console.{ConsoleState}
use Rattle.hart_step.specs.Effect.{Action, Put, Jump, Branch, Read, Write, Order, Halt, Reserve, Conditional, Exchange, Call, action}
use Rattle.hart_step.specs.Registers.{reg}
use Rattle.hart_step.specs.SerialStep.{serial_stepped, served, with_console, reserved_by, conditional_by, exchanged_by, is_reserved}
use Rattle.hart_step.specs.Step.{by_word, by_instr, stopped_by, read_by, written_by, jumped}

-- nothing was stored, and the console is as it was, unless the instruction is done
abbrev pub Idle : Stepped → List Store → ConsoleState → ConsoleState → Type 0
Idle (Done a) ss c d = Unit {0}
Idle Waits ss c d = (ss ≡ []) × (d ≡ c)
Idle (Stopped code) ss c d = (ss ≡ []) × (d ≡ c)

pub record Settled (c : ConsoleState) (o : SerialOutcome Hart ConsoleState) : Type 0 where
  pub few : length o.stores ≤ 1
  pub idle : Idle o.answer o.stores c o.console

by_bool : (c : ConsoleState) (b : Bool) (o p : StepOutcome Hart) → Settled c (with_console c o) → Settled c (with_console c p) → Settled c (with_console c (cond b o p))
by_bool c true o p x y = x
by_bool c false o p x y = y

of_jump : (c : ConsoleState) (h : Hart) (rd target : ℕ) → Settled c (with_console c (jumped h rd target))
of_jump c h rd target = by_bool c (target % 4 == 0) _ _ (record { few = omega arith; idle = tt }) (record { few = omega arith; idle = (refl, refl) })

of_read : (c : ConsoleState) (h : Hart) (rd a : ℕ) (w : Width) (s : Bool) (r : Result ℕ Fault) → Settled c (with_console c (read_by h rd a w s r))
of_read c h rd a w s (Ok v) = record { few = omega arith; idle = tt }
of_read c h rd a w s (Err f) = record { few = omega arith; idle = (refl, refl) }

of_write : (c : ConsoleState) (h : Hart) (a : ℕ) (w : Width) (v : ℕ) (f : Option Fault) → Settled c (with_console c (written_by h a w v f))
of_write c h a w v None = record { few = omega arith; idle = tt }
of_write c h a w v (Some f) = record { few = omega arith; idle = (refl, refl) }

of_reserve : (c : ConsoleState) (h : Hart) (rd a : ℕ) (w : Width) (o : AcquireRelease) (r : Result ℕ Fault) → Settled c (with_console c (reserved_by h rd a w o r))
of_reserve c h rd a w o (Ok v) = record { few = omega arith; idle = tt }
of_reserve c h rd a w o (Err f) = record { few = omega arith; idle = (refl, refl) }

of_conditional : (c : ConsoleState) (h : Hart) (rd a : ℕ) (w : Width) (v : ℕ) (o : AcquireRelease) (b : Bool) (f : Option Fault) → Settled c (with_console c (conditional_by h rd a w v o b f))
of_conditional c h rd a w v o b (Some f) = record { few = omega arith; idle = (refl, refl) }
of_conditional c h rd a w v o true None = record { few = omega arith; idle = tt }
of_conditional c h rd a w v o false None = record { few = omega arith; idle = tt }

of_exchange : (c : ConsoleState) (h : Hart) (rd a : ℕ) (w : Width) (F : ℕ → ℕ) (o : AcquireRelease) (old : ℕ) (f : Option Fault) → Settled c (with_console c (exchanged_by h rd a w F o old f))
of_exchange c h rd a w F o old None = record { few = omega arith; idle = tt }
of_exchange c h rd a w F o old (Some f) = record { few = omega arith; idle = (refl, refl) }

of_call : (n : ℕ) (h : Hart) (c : ConsoleState) (b : Bool) (o p : SerialOutcome Hart ConsoleState) → Settled c o → Settled c p → Settled c (cond b o p)
of_call n h c true o p x y = x
of_call n h c false o p x y = y

of_action : (a : Action) (n : ℕ) (h : Hart) (m : Memory) (c : ConsoleState) (r : Option Span) → Settled c (served a n h m c r)
of_action (Put rd v) n h m c r = record { few = omega arith; idle = tt }
of_action (Jump rd t) n h m c r = of_jump c h rd t
of_action (Branch b t) n h m c r = by_bool c b _ _ (of_jump c h 0 t) (record { few = omega arith; idle = tt })
of_action (Read rd a w s) n h m c r = of_read c h rd a w s (loaded m a w)
of_action (Write a w v) n h m c r = of_write c h a w v (store_fault m a w)
of_action (Order b f k) n h m c r = record { few = omega arith; idle = tt }
of_action (Halt code) n h m c r = record { few = omega arith; idle = (refl, refl) }
of_action (Reserve rd a w o) n h m c r = of_reserve c h rd a w o (loaded m a w)
of_action (Conditional rd a w v o) n h m c r = of_conditional c h rd a w v o (is_reserved r a w) (store_fault m a w)
of_action (Exchange rd a w F o) n h m c r = of_exchange c h rd a w F o (value_at m.bytes a w) (store_fault m a w)
of_action Call n h m c r = of_call n h c (reg h.x 17 == 0) _ _ (record { few = omega arith; idle = (refl, refl) }) (record { few = omega arith; idle = tt })

of_instr : (i : Option Instr) (n : ℕ) (h : Hart) (m : Memory) (c : ConsoleState) (r : Option Span) → Settled c (by_instr i (with_console c (stopped_by h 2)) (λ i. served (action i h.x h.pc) n h m c r))
of_instr None n h m c r = record { few = omega arith; idle = (refl, refl) }
of_instr (Some i) n h m c r = of_action (action i h.x h.pc) n h m c r

of_word : (w : Option ℕ) (n : ℕ) (h : Hart) (m : Memory) (c : ConsoleState) (r : Option Span) → Settled c (by_word w (with_console c (stopped_by h 3)) (with_console c (stopped_by h 2)) (λ i. served (action i h.x h.pc) n h m c r))
of_word None n h m c r = record { few = omega arith; idle = (refl, refl) }
of_word (Some w) n h m c r = of_instr (instr_of w) n h m c r

pub settled : (n : ℕ) (h : Hart) (m : Memory) (c : ConsoleState) (r : Option Span) → Settled c (serial_stepped n h m c r)
unfolding serial_stepped
settled n h m c r = of_word (fetched m h.pc) n h m c r
