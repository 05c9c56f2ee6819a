-- Laws of the moments of an execution.
use Rattle.std.specs.Prelude.{◌≡◌, ℕ, ◌<◌, true, List, length, Some}
use Rattle.std.specs.List.{AllPairs}
use Rattle.pages.specs.Memory.{Memory}
use Rattle.round_schedule.specs.Accesses.{byte_read}
use Rattle.round_schedule.specs.Positions.{event, reads_at}
use Rattle.execution.specs.Executions.{Standing}
use Rattle.execution_checker.specs.Allowed.{Allows}
use Rattle.execution_views.specs.Moments.{byte_at}
use Rattle.execution_views.specs.Passing.{IsBefore}
use Rattle.execution_moments.specs.declared.course.Course.{Course}
use Rattle.execution_moments.specs.declared.course.HartMoment.{HartMoment}
use Rattle.execution_moments.specs.Courses.{IsCourse}
use Rattle.execution_moments.specs.Shown.{hart_at, moment_at, view_at}

-- of two instructions of one hart the one that comes first in time is the first in program order
abbrev pub HartsRespectProgramOrder : Type 0
HartsRespectProgramOrder =
    (image : Memory) (p q : Standing) (g : List ℕ) (c : Course) → IsCourse image p q g c →
    AllPairs (λ a b. a < length q.events → b < length q.events → (event q.events a).hart ≡ (event q.events b).hart → a < b) c.sequence.items

-- the moment at this time is that of the instruction at index r
abbrev pub IsAt : Course → ℕ → ℕ → HartMoment → Type 0
IsAt c time r m = (moment_at c time ≡ Some m) × (m.index ≡ Some r)

-- there the instruction's hart is as before it, and, where it is a load, sees what the load reads
abbrev pub LoadsReadWhatIsShown : Type 0
LoadsReadWhatIsShown =
    (image : Memory) (p q : Standing) (g : List ℕ) (c : Course) (opening : ℕ → ℕ) → IsCourse image p q g c → Allows opening q g →
    (time r : ℕ) (m : HartMoment) → IsAt c time r m →
    ((hart_at c time m.number ≡ Some m.hart) × IsBefore image p q r m.hart) ×
    ((x : ℕ) → reads_at q.events r x ≡ true → byte_at q.events opening g (view_at c q.events g time m.number) x ≡ byte_read (event q.events r).access x)
