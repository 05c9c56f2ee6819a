-- Where a user can have a run stop: at the beginning of a round, or where a hart has done so many instructions, in a round.
use Rattle.std.specs.Prelude.{◌≡◌, ℕ, ◌-◌, ◌<◌, ◌==◌, ◌&&◌, nat_le, nat_lt, Bool, MatchBool, if◌then◌else◌, Option, Some, None}
use Rattle.hart_step.specs.declared.hart.Hart.{Hart}
use Rattle.machine.specs.Machine.{after_rounds}
use Rattle.round_schedule.specs.declared.event.Phase.TheVariants.{Parallel}
use Rattle.past_harts.specs.declared.moment.Moment.{Moment}
use Rattle.past_harts.specs.declared.point.Point.{Point}
use Rattle.past_harts.specs.declared.point.Side.TheVariants.{After}
use Rattle.round_steps.specs.declared.told.Told.{Told}
use Rattle.round_steps.specs.declared.points.Telling.{Telling}
use Rattle.past_harts.specs.Moments.{moment_in, place_in}
use Rattle.round_steps.specs.Points.{next_point_of}
use Rattle.gdb_runs.specs.declared.debugged.Debugged.{Debugged}
use Rattle.gdb_resumes.specs.declared.goals.Goal.{Goal}
use Rattle.gdb_resumes.specs.declared.goals.Goal.TheVariants as goals
use Rattle.gdb_runs.specs.Wanted.{AsksFor, only_of}
use Rattle.gdb_runs.specs.Sessions.{Recorded, hart_seen, start_of}

-- rounds are numbered from 1
abbrev pub is_there : ℕ → ℕ → Bool
is_there round rounds = nat_le 1 round && nat_le round rounds

abbrev pub goal_at_round : ℕ → ℕ → Goal
goal_at_round rounds round = if is_there round rounds then goals.At (start_of (round - 1)) else goals.NoRound

-- the hart's moment is sought from here on, in the round after n others: the one after so many of its instructions of the round is the first, or there is none
abbrev pub place_from : ℕ → ℕ → ℕ → Point
place_from n hart count = record { moment = moment_in n (place_in Parallel hart count); side = After }

abbrev pub is_at : ℕ → ℕ → ℕ → Moment → Bool
is_at n hart count at = at.rounds == n && (at.place.hart == hart && at.place.count == count)

abbrev pub goal_if : ℕ → ℕ → ℕ → Option Told → Goal
goal_if n hart count None = goals.NoPlace
goal_if n hart count (Some x) = if is_at n hart count x.point.moment then goals.At x.point else goals.NoPlace

pub record IsAtCount (r : Recorded) (n hart count : ℕ) (goal : Goal) : Type 0 where
  pub telling : Telling
  pub asks : AsksFor (only_of hart) telling
  pub is : goal ≡ goal_if n hart count (next_point_of telling.asked telling.watches.items (after_rounds n r.run) 1 (place_from n hart count))

-- the place counts from the run's beginning: the hart begins the round with so many done
abbrev pub IsAtPlace : Recorded → ℕ → ℕ → ℕ → Option Hart → Goal → Type 0
IsAtPlace r n hart place None goal = goal ≡ goals.NoPlace
IsAtPlace r n hart place (Some h) goal = MatchBool (nat_le h.done place) (IsAtCount r n hart (place - h.done) goal) (goal ≡ goals.NoPlace)

abbrev pub IsInRound : Recorded → ℕ → ℕ → ℕ → Goal → Type 0
IsInRound r n hart place goal = IsAtPlace r n hart place (hart_seen r.run (start_of n) hart) goal

abbrev pub IsPlaceOf : Recorded → ℕ → ℕ → ℕ → Goal → Type 0
IsPlaceOf r round hart place goal =
    MatchBool (is_there round r.rounds) (MatchBool (nat_lt hart r.harts) (IsInRound r (round - 1) hart place goal) (goal ≡ goals.NoHart)) (goal ≡ goals.NoRound)

-- a point is before the end of what is recorded, and of a hart that there is
abbrev pub IsGoalWithin : Debugged → Goal → Type 0
IsGoalWithin d (goals.At at) = (at.moment.rounds < d.timeline.rounds) × (at.moment.place.hart < d.harts)
IsGoalWithin d goals.End = Unit {0}
IsGoalWithin d goals.NoRound = Unit {0}
IsGoalWithin d goals.NoHart = Unit {0}
IsGoalWithin d goals.NoPlace = Unit {0}
