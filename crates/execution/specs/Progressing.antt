-- An execution under way, as callers see it, and what is kept of it.
use Rattle.std.specs.Prelude.{◌≡◌, ◌≢◌, ℕ, ◌<◌, ◌≤◌, ◌++◌, ◌∷◌, true, [], List, length, slice_index_or, is_some, unwrap_or, MatchOption, Option, None, Some}
use Rattle.round_schedule.specs.declared.bounds.TheConstants.{MOST_HARTS}
use Rattle.pages.specs.Memory.{Memory}
use Rattle.round_schedule.specs.declared.access.Access.{Access}
use Rattle.round_schedule.specs.declared.access.Stepped.{Stepped}
use Rattle.round_schedule.specs.declared.access.Stepped.TheVariants.{Done}
use Rattle.round_schedule.specs.declared.event.Event.{Event}
use Rattle.round_schedule.specs.declared.event.Phase.TheVariants.{Parallel}
use Rattle.hart_step.specs.declared.hart.Hart.{Hart}
use Rattle.hart_step.specs.Console.{ConsoleState}
use Rattle.execution.specs.declared.progress.Progress.{Progress}
use Rattle.execution.specs.declared.step_fault.StepFault.{StepFault}
use Rattle.execution.specs.declared.step_fault.StepFault.TheVariants.{NoSuchHart, HasStopped, OtherNumber, RoundFalls}
use Rattle.execution.specs.declared.step.ScriptedStep.{ScriptedStep}
use Rattle.round_schedule.specs.Accesses.{read_of}
use Rattle.execution.specs.Executions.{IsLike, Standing, Takes, no_access, own_held}

-- a memory that is like the image's, and where the execution stands
pub record Underway : Type 0 where
  pub memory : Memory
  pub standing : Standing

abbrev pub standing : Progress → Standing
standing p = record {
  harts = p.harts.items;
  console = p.shared.console.console;
  round = p.round;
  instructions = p.instructions.items;
  events = p.events.items;
}

abbrev pub underway : Progress → Underway
underway p = record { memory = p.shared.pages.memory; standing = standing p }

-- where an execution stands before its first step
abbrev pub at_start : List Hart → ConsoleState → Standing
at_start hs c = record { harts = hs; console = c; round = 0; instructions = []; events = [] }

-- the event that is kept of a step
abbrev pub step_event : ℕ → Option Access → Event
step_event i a = record { access = unwrap_or a no_access; round = 0; hart = i; phase = Parallel }

-- what is kept is that of each of at most 64 harts
pub record IsReady (p : Progress) : Type 0 where
  pub few : length p.harts.items ≤ MOST_HARTS
  pub reservations : length p.shared.reservations ≡ length p.harts.items
  pub owned : length p.own.items ≡ length p.harts.items
  pub own : (i : ℕ) → i < length p.harts.items → slice_index_or p.own.items i None ≡ own_held i p.events.items

-- an instruction with this answer read this number
abbrev pub IsRead : Stepped → ℕ → Type 0
IsRead answer v = (a : Access) × (answer ≡ Done (Some a)) × (read_of a ≡ Some v)

-- the next instruction of the step's hart can read this number, which is not the step's
pub record ReadsOther (image : Memory) (s : ScriptedStep) (read : ℕ) (p : Standing) : Type 0 where
  pub after : Standing
  pub takes : Takes image (record s { number = Some read }) p after
  pub event : Event
  pub events : after.events ≡ p.events ++ event ∷ []
  pub reads : read_of event.access ≡ Some read
  pub other : s.number ≢ Some read

-- why the step's hart doesn't take it next
abbrev pub HasNoStep : StepFault → Memory → ScriptedStep → Standing → Type 0
HasNoStep NoSuchHart image s p = length p.harts ≤ s.hart
HasNoStep RoundFalls image s p = s.round < p.round
HasNoStep HasStopped image s p = (h : Hart) → h ≡ slice_index_or p.harts s.hart h → is_some h.stop ≡ true
HasNoStep (OtherNumber read) image s p = ReadsOther image s read p

-- a step is taken, over a memory that is like the image; or all stands as it stood, and there is no such step for this reason
abbrev pub IsTaken : Option StepFault → Memory → ScriptedStep → Standing → Standing → Type 0
IsTaken fault m s p q = MatchOption fault ((image : Memory) → IsLike image m → Takes image s p q)
    (λ f. ((image : Memory) → IsLike image m → HasNoStep f image s p) × (q ≡ p))
