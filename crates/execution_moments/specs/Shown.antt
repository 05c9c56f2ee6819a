-- What each hart is at a time, and from where it sees memory.
use Rattle.std.specs.Prelude.{ℕ, ◌-◌, ◌==◌, Bool, false, List, length, slice_get, Option, Some, None}
use Rattle.round_schedule.specs.declared.event.Event.{Event}
use Rattle.hart_step.specs.declared.hart.Hart.{Hart}
use Rattle.byte_sources.specs.Marks.{first_from}
use Rattle.byte_sources.specs.Sources.{last_below}
use Rattle.execution_views.specs.declared.moment.Moment.{Moment}
use Rattle.execution_views.specs.Moments.{moment_of}
use Rattle.execution_moments.specs.declared.course.Course.{Course}
use Rattle.execution_moments.specs.declared.course.HartMoment.{HartMoment}

-- the moment at a time
abbrev pub moment_by : Course → Option ℕ → Option HartMoment
moment_by c None = None
moment_by c (Some number) = slice_get c.moments.items number

abbrev pub moment_at : Course → ℕ → Option HartMoment
moment_at c time = moment_by c (slice_get c.sequence.items time)

-- whether it is one of hart h
abbrev pub has_number : ℕ → Option HartMoment → Bool
has_number h None = false
has_number h (Some m) = m.number == h

abbrev pub is_of : Course → ℕ → ℕ → Bool
is_of c h time = has_number h (moment_at c time)

-- the time of the next moment of hart h from a time on
abbrev pub next_of : Course → ℕ → ℕ → Option ℕ
next_of c time h = first_from (is_of c h) time (length c.sequence.items - time)

-- the time of its last moment before one
abbrev pub previous_of : Course → ℕ → ℕ → Option ℕ
previous_of c time h = last_below (is_of c h) time

-- the hart there; where it has no further moment it is as it ends
abbrev pub hart_in : Option HartMoment → Option Hart
hart_in None = None
hart_in (Some m) = Some m.hart

abbrev pub hart_by : Course → ℕ → Option ℕ → Option Hart
hart_by c h None = slice_get c.ends.items h
hart_by c h (Some next) = hart_in (moment_at c next)

abbrev pub hart_at : Course → ℕ → ℕ → Option Hart
hart_at c time h = hart_by c h (next_of c time h)

-- the index of the instruction that it does next
abbrev pub index_in : Option HartMoment → Option ℕ
index_in None = None
index_in (Some m) = m.index

abbrev pub index_by : Course → Option ℕ → Option ℕ
index_by c None = None
index_by c (Some next) = index_in (moment_at c next)

abbrev pub index_at : Course → ℕ → ℕ → Option ℕ
index_at c time h = index_by c (next_of c time h)

-- from where it sees memory: as before that instruction; from the order's end where it does no further one
abbrev pub view_by : List Event → List ℕ → ℕ → Option ℕ → Moment
view_by t g h None = record { hart = h; index = length t; position = length g }
view_by t g h (Some k) = moment_of t g k

abbrev pub view_at : Course → List Event → List ℕ → ℕ → ℕ → Moment
view_at c t g time h = view_by t g h (index_at c time h)
