-- An execution on its way: which hart does each of its instructions, and what that hart is before it.
use Rattle.std.specs.Prelude.{◌≡◌, ◌<◌, ◌==◌, ℕ, List, length, slice_get, slice_index, take, Option, Some, None}
use Rattle.std.specs.List.{count_by}
use Rattle.pages.specs.Memory.{Memory}
use Rattle.round_schedule.specs.declared.event.Event.{Event}
use Rattle.round_schedule.specs.Positions.{event}
use Rattle.hart_step.specs.declared.hart.Hart.{Hart}
use Rattle.execution.specs.Executions.{Executes, Standing}
use Rattle.execution_views.specs.declared.sights.Before.{Before}
use Rattle.execution_views.specs.declared.sights.HartStep.{HartStep}

-- on its way from p to q the execution stands here
pub record Passes (image : Memory) (p here q : Standing) : Type 0 where
  pub leads : Executes image p here
  pub goes_on : Executes image here q

-- before the instruction at index k of the list of those that were done from p to q, its hart is g
pub record IsBefore (image : Memory) (p q : Standing) (k : ℕ) (g : Hart) : Type 0 where
  pub here : Standing
  pub passes : Passes image p here q
  pub done : length here.events ≡ k
  pub hart : slice_get here.harts (event q.events k).hart ≡ Some g

-- for each instruction the pc of its hart before it
pub record ArePcs (image : Memory) (p q : Standing) (pcs : List ℕ) : Type 0 where
  pub count : length pcs ≡ length q.events
  pub each : (k : ℕ) → k < length q.events → (g : Hart) × IsBefore image p q k g × (slice_index pcs k ≡ g.pc)

-- how many of these events are of hart h
abbrev pub events_of_hart : ℕ → List Event → ℕ
events_of_hart h t = count_by (λ (e : Event). e.hart == h) t

-- the instruction at index k is step n of hart h: it has done n others before it
pub record IsStepOf (t : List Event) (h n k : ℕ) : Type 0 where
  pub within : k < length t
  pub hart : (event t k).hart ≡ h
  pub before : events_of_hart h (take k t) ≡ n

-- the index of a hart's step in the list, and the hart before it; none where the hart does no such step
abbrev pub IsFound : Memory → Standing → Standing → HartStep → Option Before → Type 0
IsFound image p q s None = (k : ℕ) → IsStepOf q.events s.hart s.number k → ⊥
IsFound image p q s (Some b) = IsStepOf q.events s.hart s.number b.index × IsBefore image p q b.index b.hart

-- the same, where a step is asked for
abbrev pub IsTold : Memory → Standing → Standing → Option HartStep → Option Before → Type 0
IsTold image p q None found = found ≡ None
IsTold image p q (Some s) found = IsFound image p q s found
