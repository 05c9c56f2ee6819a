-- A search for what is told next, which goes on a stretch of rounds at a time.
use Rattle.std.specs.Prelude.{◌≡◌, ℕ, ◌+◌, ◌-◌, Option, min}
use Rattle.machine.specs.Machine.{after_rounds}
use Rattle.watching.specs.declared.watchpoint.Way.{Way}
use Rattle.watching.specs.declared.watchpoint.Way.TheVariants.{On, Back}
use Rattle.past_harts.specs.declared.point.Point.{Point}
use Rattle.round_steps.specs.declared.told.Told.{Told}
use Rattle.round_steps.specs.declared.points.Telling.{Telling}
use Rattle.round_steps.specs.Points.{next_point_of, or_else, previous_point_of}
use Rattle.gdb_resumes.specs.declared.searching.Search.{Search}
use Rattle.gdb_runs.specs.Wanted.{nearest_of}
use Rattle.gdb_runs.specs.Sessions.{Recorded, State}

-- the nearest one in the rounds that are left: in those behind so many on the way on, and in those before on the way back
abbrev pub left_of : Recorded → Way → ℕ → Telling → Point → Option Told
left_of r On n t here = next_point_of t.asked t.watches.items (after_rounds n r.run) (r.rounds - n) here
left_of r Back n t here = previous_point_of t.asked t.watches.items r.run n here

-- this is told nearest in the rounds between, or nothing is
abbrev pub IsPassed : Recorded → Way → ℕ → ℕ → Telling → Point → Option Told → Type 0
IsPassed r way n to t here found = or_else found (left_of r way to t here) ≡ left_of r way n t here

-- a search begins in the round in which the run stands: before it on the way on, and behind it on the way back
abbrev pub begins_at : ℕ → Way → ℕ → ℕ
begins_at rounds On n = n
begins_at rounds Back n = min rounds (n + 1)

-- nothing is told in the rounds up to here: what is told in the whole is told in those that are left
abbrev pub HasCome : Recorded → State → Search → Type 0
HasCome r s x = nearest_of r x.reach.way x.telling s.standing.point ≡ left_of r x.reach.way x.reach.rounds x.telling s.standing.point
