-- What is kept of an execution while it is followed.
use Rattle.std.specs.Prelude.{◌≡◌, ◌+◌, ◌==◌, ◌&&◌, ◌++◌, ◌∷◌, [], ℕ, Bool, false, if◌then◌else◌, List, length, Option, Some, None}
use Rattle.pages.specs.Memory.{Memory}
use Rattle.round_schedule.specs.declared.event.Event.{Event}
use Rattle.hart_step.specs.declared.hart.Hart.{Hart}
use Rattle.execution.specs.Executions.{Standing}
use Rattle.execution_views.specs.declared.sights.HartStep.{HartStep}
use Rattle.execution_views.specs.declared.sights.Sights.{Sights}
use Rattle.execution_views.specs.declared.walk.Notes.{Notes}
use Rattle.execution_views.specs.Passing.{ArePcs, IsTold, events_of_hart}

-- what is seen on the way from p to q: the pc of each instruction, and the step that is asked for
pub record AreSights (image : Memory) (p q : Standing) (asked : Option HartStep) (s : Sights) : Type 0 where
  pub pcs : ArePcs image p q s.pcs.items
  pub before : IsTold image p q asked s.before

-- how many of these events are of the hart that is asked for
abbrev pub steps_of : Option HartStep → List Event → ℕ
steps_of None t = 0
steps_of (Some s) t = events_of_hart s.hart t

-- and how many steps the hart that is asked for has done
pub record AreNotes (image : Memory) (p q : Standing) (asked : Option HartStep) (n : Notes) : Type 0 where
  pub sights : AreSights image p q asked n.sights
  pub steps : n.steps ≡ steps_of asked q.events

-- whether hart h is the one that is asked for, and whether its step after n others is the step that is asked for
abbrev pub is_asked_hart : Option HartStep → ℕ → Bool
is_asked_hart None h = false
is_asked_hart (Some s) h = h == s.hart

abbrev pub is_asked_step : Option HartStep → ℕ → ℕ → Bool
is_asked_step None h n = false
is_asked_step (Some s) h n = (h == s.hart) && (n == s.number)

-- an instruction of hart h, which was g before it, is noted
pub record IsNoted (asked : Option HartStep) (h : ℕ) (g : Hart) (old new : Notes) : Type 0 where
  pub pcs : new.sights.pcs.items ≡ old.sights.pcs.items ++ g.pc ∷ []
  pub steps : new.steps ≡ (if is_asked_hart asked h then old.steps + 1 else old.steps)
  pub before : new.sights.before ≡ (if is_asked_step asked h old.steps then Some (record { index = length old.sights.pcs.items; hart = g }) else old.sights.before)
