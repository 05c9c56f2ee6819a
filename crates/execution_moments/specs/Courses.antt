-- The moments of an execution.
use Rattle.std.specs.Prelude.{◌≡◌, ℕ, suc, ◌<◌, ◌⊎◌, if◌then◌else◌, List, [], ◌∷◌, ◌++◌, length, slice_index_or, is_some, All, Contains, Some, None}
use Rattle.std.specs.List.{AllPairs}
use Rattle.pages.specs.Memory.{Memory}
use Rattle.round_schedule.specs.declared.event.Event.{Event}
use Rattle.round_schedule.specs.Positions.{event}
use Rattle.hart_step.specs.declared.hart.Hart.{Hart}
use Rattle.execution.specs.Executions.{Standing}
use Rattle.execution_views.specs.Passing.{IsBefore}
use Rattle.execution_moments.specs.declared.course.Course.{Course}
use Rattle.execution_moments.specs.declared.course.HartMoment.{HartMoment}
use Rattle.execution_moments.specs.Times.{AreTimes}

-- ---- of the instructions that were done from p to q: for each the moment of its hart before it

abbrev pub before_one : Event → ℕ → Hart → HartMoment
before_one e k g = record { number = e.hart; index = Some k; hart = g }

pub record AreBefore (image : Memory) (p q : Standing) (ms : List HartMoment) : Type 0 where
  pub count : length ms ≡ length q.events
  pub each : (k : ℕ) → k < length q.events → (g : Hart) × IsBefore image p q k g × ((d : HartMoment) → slice_index_or ms k d ≡ before_one (event q.events k) k g)

-- ---- of the harts that have stopped

abbrev pub stopped_one : ℕ → Hart → List HartMoment
stopped_one h g = if is_some g.stop then record { number = h; index = None; hart = g } ∷ [] else []

-- these are harts h, h + 1, ..
abbrev pub stopped_from : ℕ → List Hart → List HartMoment
stopped_from h [] = []
stopped_from h (g ∷ gs) = stopped_one h g ++ stopped_from (suc h) gs

-- ---- the order of time: by times, and at one time by numbers

abbrev pub ComesBefore : (ℕ → ℕ) → ℕ → ℕ → Type 0
ComesBefore time a b = (time a < time b) ⊎ ((time a ≡ time b) × (a < b))

-- the numbers below n in it
pub record IsSequence (time : ℕ → ℕ) (n : ℕ) (s : List ℕ) : Type 0 where
  pub count : length s ≡ n
  pub below : All (λ k. k < n) s
  pub each : (k : ℕ) → k < n → Contains s k
  pub in_time : AllPairs (ComesBefore time) s

-- ---- the whole, where the moments before the instructions are these: a hart that has stopped has its moment at the end

pub record IsCourseOf (before : List HartMoment) (q : Standing) (g : List ℕ) (c : Course) : Type 0 where
  pub moments : c.moments.items ≡ before ++ stopped_from 0 q.harts
  pub ends : c.ends.items ≡ q.harts
  pub times : List ℕ
  pub are_times : AreTimes q.events g times
  pub sequence : IsSequence (λ k. slice_index_or times k (length g)) (length c.moments.items) c.sequence.items

-- the moments of the execution from p to q, whose memory operations are in the order g
pub record IsCourse (image : Memory) (p q : Standing) (g : List ℕ) (c : Course) : Type 0 where
  pub before : List HartMoment
  pub are_before : AreBefore image p q before
  pub course : IsCourseOf before q g c
