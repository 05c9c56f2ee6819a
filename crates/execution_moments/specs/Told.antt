-- What is told of an execution, and where: that a hart is at a moment, before its instruction; and by a watchpoint the access of an instruction, on the way on
-- before it, behind all else that is told of the moment, and on the way back behind it.
use Rattle.std.specs.Prelude.{ℕ, zero, suc, ◌+◌, ◌-◌, ◌||◌, ◌&&◌, nat_lt, Bool, false, if◌then◌else◌, List, Option, Some, None}
use Rattle.moments.specs.Hits.{is_fault, is_hart}
use Rattle.moments.specs.Stops.{is_one_of}
use Rattle.round_schedule.specs.Accesses.{address_of, bytes_of}
use Rattle.round_schedule.specs.Positions.{event}
use Rattle.watching.specs.declared.watchpoint.Watchpoint.{Watchpoint}
use Rattle.watching.specs.Events.{told_alone}
use Rattle.execution_moments.specs.declared.course.Course.{Course}
use Rattle.execution_moments.specs.declared.course.HartMoment.{HartMoment}
use Rattle.execution_moments.specs.declared.point.TimePoint.{TimePoint}
use Rattle.execution_moments.specs.declared.point.TimeSide.TheVariants.{After, Break, Access}
use Rattle.execution_moments.specs.declared.told.Told.{Told}
use Rattle.execution_moments.specs.Looked.{Looked, bytes_shown, end_of}
use Rattle.execution_moments.specs.Points.{at, point_before}
use Rattle.execution_moments.specs.Shown.{moment_at}

-- ---- at one time

-- a moment is told if all moments of its hart are, if the hart's pc is one of these addresses, or, where faults are, if a fault has stopped it
abbrev pub tells_of : Option ℕ → Bool → List ℕ → Option HartMoment → Bool
tells_of each faults stops None = false
tells_of each faults stops (Some m) = is_hart each m.number || (faults && is_fault m.hart.stop) || is_one_of stops m.hart.pc

abbrev pub is_told : Course → Option ℕ → Bool → List ℕ → ℕ → Bool
is_told c each faults stops time = tells_of each faults stops (moment_at c time)

abbrev pub stop_of : ℕ → Option HartMoment → Option Told
stop_of time None = None
stop_of time (Some m) = Some (record { point = at time Break; number = m.number; watch = None })

abbrev pub stop_at : Looked → Option ℕ → Bool → List ℕ → ℕ → Option Told
stop_at r each faults stops time = if is_told r.course each faults stops time then stop_of time (moment_at r.course time) else None

-- the access of an instruction is told by the first watchpoint that tells of it, where its hart is shown memory as it sees it before the instruction
abbrev pub watch_of : Looked → List Watchpoint → ℕ → ℕ → Option ℕ → Option ℕ
watch_of r ws time h None = None
watch_of r ws time h (Some k) = let e = event r.events k in told_alone ws e (bytes_shown r time h (address_of e.access) (bytes_of e.access))

abbrev pub access_by : TimePoint → ℕ → Option ℕ → Option Told
access_by point h None = None
access_by point h (Some watch) = Some (record { point = point; number = h; watch = Some watch })

abbrev pub access_of : Looked → List Watchpoint → TimePoint → ℕ → Option HartMoment → Option Told
access_of r ws point time None = None
access_of r ws point time (Some m) = access_by point m.number (watch_of r ws time m.number m.index)

-- that of the instruction at a time, told at this point
abbrev pub access_at : Looked → List Watchpoint → TimePoint → ℕ → Option Told
access_at r ws point time = access_of r ws point time (moment_at r.course time)

-- ---- on the way on, behind a point

abbrev pub or_next : Option Told → Option Told → Option Told
or_next None y = y
or_next (Some x) y = Some x

abbrev pub stop_on : Looked → Option ℕ → Bool → List ℕ → TimePoint → ℕ → Option Told
stop_on r each faults stops here time = if point_before here (at time Break) then stop_at r each faults stops time else None

abbrev pub access_on : Looked → List Watchpoint → TimePoint → ℕ → Option Told
access_on r ws here time = if point_before here (at time Access) then access_at r ws (at time Access) time else None

abbrev pub told_on : Looked → Option ℕ → Bool → List ℕ → List Watchpoint → TimePoint → ℕ → Option Told
told_on r each faults stops ws here time = or_next (stop_on r each faults stops here time) (access_on r ws here time)

-- at the first of n times from a on at which something is told
abbrev pub first_told : (ℕ → Option Told) → ℕ → ℕ → Option Told
first_told f a zero = None
first_told f a (suc n) = or_next (f a) (first_told f (a + 1) n)

abbrev pub next_told : Looked → Option ℕ → Bool → List ℕ → List Watchpoint → TimePoint → Option Told
next_told r each faults stops ws here = first_told (told_on r each faults stops ws here) here.time (end_of r - here.time)

-- ---- on the way back, before a point

abbrev pub stop_back : Looked → Option ℕ → Bool → List ℕ → TimePoint → ℕ → Option Told
stop_back r each faults stops here time = if point_before (at time Break) here then stop_at r each faults stops time else None

abbrev pub access_back : Looked → List Watchpoint → TimePoint → ℕ → Option Told
access_back r ws here time = if nat_lt 0 time && point_before (at time After) here then access_at r ws (at time After) (time - 1) else None

abbrev pub told_back : Looked → Option ℕ → Bool → List ℕ → List Watchpoint → TimePoint → ℕ → Option Told
told_back r each faults stops ws here time = or_next (stop_back r each faults stops here time) (access_back r ws here time)

-- at the last of the times 0 to n
abbrev pub last_told : (ℕ → Option Told) → ℕ → Option Told
last_told f zero = f 0
last_told f (suc n) = or_next (f (suc n)) (last_told f n)

abbrev pub previous_told : Looked → Option ℕ → Bool → List ℕ → List Watchpoint → TimePoint → Option Told
previous_told r each faults stops ws here = last_told (told_back r each faults stops ws here) here.time
