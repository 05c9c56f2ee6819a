-- Where an execution stands after it was resumed.
use Rattle.std.specs.Prelude.{ℕ, ◌+◌, ◌==◌, ◌&&◌, ◌||◌, not, nat_le, nat_lt, Bool, true, false, if◌then◌else◌, [], ◌++◌, Option, Some, None}
use Rattle.execution_moments.specs.declared.point.TimePoint.{TimePoint}
use Rattle.execution_moments.specs.declared.point.TimeSide.TheVariants.{Between, Break}
use Rattle.execution_moments.specs.declared.told.Told.{Told}
use Rattle.execution_moments.specs.Looked.{Looked, end_of}
use Rattle.execution_moments.specs.Points.{at, later_of, side_number}
use Rattle.execution_moments.specs.Shown.{hart_at, is_of, next_of, previous_of}
use Rattle.execution_moments.specs.Told.{access_back, access_on, next_told, previous_told}
use Rattle.gdb_replies.specs.declared.stop_reply.Reason.{Reason}
use Rattle.gdb_replies.specs.declared.stop_reply.Reason.TheVariants.{Begin, End, Step}
use Rattle.gdb_talk.specs.Told.{why, why_told}
use Rattle.execution_session.specs.declared.session.Standing.{Standing}
use Rattle.execution_session.specs.Sessions.{State, has_stopped, moved, stays}

-- all that is told in a session, and each moment of a hart beside: the next on from a point, and back
abbrev pub next_in : Looked → State → Option ℕ → TimePoint → Option Told
next_in r s each here = next_told r each true (s.stops.software ++ s.stops.hardware) s.stops.watches here

abbrev pub previous_in : Looked → State → Option ℕ → TimePoint → Option Told
previous_in r s each here = previous_told r each true (s.stops.software ++ s.stops.hardware) s.stops.watches here

-- why one stands where this is told
abbrev pub why_in : Looked → State → Told → Reason
why_in r s x = why_told s.stops x.watch (hart_at r.course x.point.time x.number)

abbrev pub told_at : Looked → State → Told → Standing
told_at r s x = moved s.standing x.point (why_in r s x) x.number

abbrev pub told_or : Looked → State → Standing → Option Told → Standing
told_or r s otherwise None = otherwise
told_or r s otherwise (Some x) = told_at r s x

abbrev pub at_end : Looked → Standing → Standing
at_end r t = moved t (at (end_of r) Break) End t.told

-- on, and back
abbrev pub goes_on : Looked → State → Standing
goes_on r s = told_or r s (at_end r s.standing) (next_in r s None s.standing.point)

abbrev pub goes_back : Looked → State → Standing
goes_back r s = told_or r s (moved s.standing (at 0 Break) Begin s.standing.told) (previous_in r s None s.standing.point)

-- a step of a hart, in which the others may go on. It begins at a moment of the hart's own, where the session stands or where nothing else is told
abbrev pub is_step : Reason → Bool
is_step Step = true
is_step reason = false

abbrev pub begins_step : Looked → State → ℕ → Told → Bool
begins_step r s h x = x.number == h && (not (has_stopped r x.point.time h) && (nat_le x.point.time s.standing.point.time || is_step (why_in r s x)))

-- and ends at the next thing that is told behind that, as its next moment is
abbrev pub steps_by : Looked → State → ℕ → Option Told → Standing
steps_by r s h None = at_end r s.standing
steps_by r s h (Some x) =
    if begins_step r s h x then told_or r s (at_end r s.standing) (next_in r s (Some h) (later_of s.standing.point x.point)) else told_at r s x

-- at a moment of the hart's own it begins there, whatever was told there
abbrev pub sought_on : Looked → TimePoint → ℕ → TimePoint
sought_on r here h = if is_of r.course h here.time then at here.time Between else here

abbrev pub steps : Looked → State → ℕ → Standing
steps r s h =
    if has_stopped r s.standing.point.time h then stays s.standing End h else steps_by r s h (next_in r s (Some h) (sought_on r s.standing.point h))

-- a step of a hart alone ends right behind its instruction, and of others nothing is told. Where a watchpoint tells of the instruction, it is told first
abbrev pub steps_alone_at : Looked → State → ℕ → ℕ → Option Told → Standing
steps_alone_at r s h own None = moved s.standing (at (own + 1) Between) Step h
steps_alone_at r s h own (Some x) = told_at r s x

abbrev pub steps_alone_by : Looked → State → ℕ → Option ℕ → Standing
steps_alone_by r s h None = at_end r s.standing
steps_alone_by r s h (Some own) = steps_alone_at r s h own (access_on r s.stops.watches s.standing.point own)

abbrev pub steps_alone : Looked → State → ℕ → Standing
steps_alone r s h = if has_stopped r s.standing.point.time h then stays s.standing End h else steps_alone_by r s h (next_of r.course s.standing.point.time h)

-- a step back, of the hart alone
abbrev pub back_alone_at : Looked → State → ℕ → ℕ → Option Told → Standing
back_alone_at r s h own None = moved s.standing (at own Break) (why [] [] (hart_at r.course own h)) h
back_alone_at r s h own (Some x) = told_at r s x

abbrev pub back_alone_by : Looked → State → ℕ → Option ℕ → Standing
back_alone_by r s h None = stays s.standing Begin h
back_alone_by r s h (Some own) = back_alone_at r s h own (access_back r s.stops.watches s.standing.point (own + 1))

-- or with the others: before a moment of the hart's own it begins there
abbrev pub sought_back : Looked → TimePoint → ℕ → TimePoint
sought_back r here h = if is_of r.course h here.time && nat_lt (side_number Between) (side_number here.side) then at here.time Break else here

abbrev pub steps_back_by : Looked → State → Option ℕ → Standing
steps_back_by r s None =
    let h = s.standing.general in
    told_or r s (stays s.standing Begin h) (previous_in r s (Some h) (sought_back r s.standing.point h))
steps_back_by r s (Some h) = back_alone_by r s h (previous_of r.course s.standing.point.time h)

abbrev pub steps_back : Looked → State → Standing
steps_back r s = steps_back_by r s s.standing.moving
