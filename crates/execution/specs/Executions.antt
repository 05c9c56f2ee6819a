-- Executions of an image: each hart does its instructions as the instruction set has them, and each reads any numbers.
use Rattle.std.specs.Prelude.{◌≡◌, ℕ, ◌<◌, ◌≤◌, ◌⊎◌, ◌==◌, false, if◌then◌else◌, List, [], ◌∷◌, ◌++◌, length, slice_index_or, slice_set, unwrap_or, Option, Some, None}
use Rattle.pages.specs.Memory.{IsBytes, Memory, fetched}
use Rattle.rv64_decode.specs.declared.instruction.Instr.{Instr}
use Rattle.rv64_decode.specs.declared.ordering.FenceMode.TheVariants.{Normal}
use Rattle.round_schedule.specs.declared.access.Access.{Access}
use Rattle.round_schedule.specs.declared.access.Access.TheVariants.{Fence}
use Rattle.round_schedule.specs.declared.access.Stepped.{Stepped}
use Rattle.round_schedule.specs.declared.access.Stepped.TheVariants.{Done, Stopped}
use Rattle.round_schedule.specs.declared.event.Event.{Event}
use Rattle.round_schedule.specs.declared.span.Span.{Span}
use Rattle.round_schedule.specs.Held.{held_after_own}
use Rattle.hart_step.specs.declared.hart.Hart.{Hart}
use Rattle.hart_step.specs.DecodedCode.{decoded}
use Rattle.hart_step.specs.Console.{ConsoleState}
use Rattle.hart_step.specs.SerialStep.{serial_stepped}
use Rattle.round_schedule.specs.Accesses.{read_of}
use Rattle.execution.specs.declared.step.ScriptedStep.{ScriptedStep}

-- memory of the image's size and with its code, and any bytes elsewhere
pub record IsLike (image m : Memory) : Type 0 where
  pub size : length m.bytes ≡ length image.bytes
  pub code : m.code ≡ image.code
  pub words : (pc : ℕ) → fetched m pc ≡ fetched image pc

-- the reservation that a hart's own LRs and SCs leave it, whatever others write
abbrev pub own_held_from : ℕ → Option Span → List Event → Option Span
own_held_from h s [] = s
own_held_from h s (e ∷ t) = own_held_from h (if e.hart == h then held_after_own e.access s else s) t

abbrev pub own_held : ℕ → List Event → Option Span
own_held h t = own_held_from h None t

-- a reservation can be lost at any time
abbrev pub MayHold : Option Span → Option Span → Type 0
MayHold own held = (held ≡ None) ⊎ (held ≡ own)

-- an instruction of hart h gives this answer, and the hart becomes g: on some memory like the image, in round n, with the
-- reservation that its own LRs and SCs left it or with none; c and d are the console before it and after it
pub record IsStep (image : Memory) (n : ℕ) (own : Option Span) (c d : ConsoleState) (h g : Hart) (answer : Stepped) : Type 0 where
  pub runs : h.stop ≡ None
  pub seen : Memory
  pub like : IsLike image seen
  pub bytes : IsBytes seen.bytes
  pub held : Option Span
  pub may_hold : MayHold own held
  pub answers : (serial_stepped n h seen c held).answer ≡ answer
  pub hart : g ≡ (serial_stepped n h seen c held).hart
  pub console : d ≡ (serial_stepped n h seen c held).console

-- ---- all harts

-- the harts, the console, the number of the last round, and what was done so far: an instruction and an event for each step
pub record Standing : Type 0 where
  pub harts : List Hart
  pub console : ConsoleState
  pub round : ℕ
  pub instructions : List Instr
  pub events : List Event

-- the event of an instruction of hart i; without an access it is a fence that orders nothing
abbrev pub no_access : Access
no_access = Fence (record { reads = false; writes = false }) (record { reads = false; writes = false }) Normal 0

pub record IsEventOf (i : ℕ) (a : Option Access) (e : Event) : Type 0 where
  pub hart : e.hart ≡ i
  pub access : e.access ≡ unwrap_or a no_access

-- hart i does its next instruction; rounds are counted on
pub record Goes (image : Memory) (i : ℕ) (p q : Standing) : Type 0 where
  pub before : Hart
  pub within : i < length p.harts
  pub there : before ≡ slice_index_or p.harts i before
  pub after : Hart
  pub later : p.round ≤ q.round
  pub instruction : Instr
  pub access : Option Access
  pub decodes : decoded image before.pc ≡ Some instruction
  pub step : IsStep image q.round (own_held i p.events) p.console q.console before after (Done access)
  pub harts : q.harts ≡ slice_set p.harts i after
  pub instructions : q.instructions ≡ p.instructions ++ instruction ∷ []
  pub event : Event
  pub event_of : IsEventOf i access event
  pub events : q.events ≡ p.events ++ event ∷ []

-- or it stops; the instructions and the events are as they were
pub record Stops (image : Memory) (i : ℕ) (p q : Standing) : Type 0 where
  pub before : Hart
  pub within : i < length p.harts
  pub there : before ≡ slice_index_or p.harts i before
  pub after : Hart
  pub later : p.round ≤ q.round
  pub code : ℕ
  pub step : IsStep image q.round (own_held i p.events) p.console q.console before after (Stopped code)
  pub harts : q.harts ≡ slice_set p.harts i after
  pub instructions : q.instructions ≡ p.instructions
  pub events : q.events ≡ p.events

-- an execution: harts take steps in some order, from one standing to another
pub data Executes (image : Memory) : Standing → Standing → Type 0 where
  begins : (p : Standing) → Executes image p p
  goes : (i : ℕ) (p q r : Standing) → Executes image p q → Goes image i q r → Executes image p r
  stops : (i : ℕ) (p q r : Standing) → Executes image p q → Stops image i q r → Executes image p r

-- the step's hart does its next instruction in the step's round, or stops; what the instruction reads is the step's number
pub record Takes (image : Memory) (s : ScriptedStep) (p q : Standing) : Type 0 where
  pub round : q.round ≡ s.round
  pub step : Goes image s.hart p q ⊎ Stops image s.hart p q
  pub reads : (e : Event) (v : ℕ) → q.events ≡ p.events ++ e ∷ [] → read_of e.access ≡ Some v → s.number ≡ Some v
