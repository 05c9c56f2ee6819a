-- Where a run stands after it was resumed, on or back to what is told.
use Rattle.std.specs.Prelude.{◌≡◌, ℕ, ◌≤◌, nat_le, nat_lt, ◌&&◌, not, Bool, true, if◌then◌else◌, Option, Some, None}
use Rattle.watching.specs.declared.watchpoint.Way.{Way}
use Rattle.watching.specs.declared.watchpoint.Way.TheVariants.{On, Back}
use Rattle.past_harts.specs.declared.point.Point.{Point}
use Rattle.past_harts.specs.declared.point.Side.TheVariants.{After}
use Rattle.round_steps.specs.declared.told.Told.{Told}
use Rattle.past_harts.specs.Points.{point_before}
use Rattle.gdb_replies.specs.declared.stop_reply.Reason.TheVariants.{Signal}
use Rattle.gdb_runs.specs.declared.session.Standing.{Standing}
use Rattle.gdb_runs.specs.declared.debugged.Debugged.{Debugged}
use Rattle.gdb_resumes.specs.declared.searching.Search.{Search}
use Rattle.gdb_resumes.specs.declared.searching.Searched.{Searched}
use Rattle.gdb_resumes.specs.declared.searching.Searched.TheVariants.{GoesOn, Stands}
use Rattle.gdb_runs.specs.Sessions.{IsReady, OfRun, Recorded, State, start_of}
use Rattle.gdb_runs.specs.Standings.{at_goal, end_of, moved, told_or}
use Rattle.gdb_runs.specs.Wanted.{AsksFor, Finds, all_told}
use Rattle.gdb_resumes.specs.Searches.{HasCome}

-- ---- where the user wants to go: a run that goes on or back stops there once, where it comes there before all that is told

abbrev pub is_ahead : Way → Point → Point → Bool
is_ahead On here goal = point_before here goal
is_ahead Back here goal = point_before goal here

abbrev pub comes_first : Way → Point → Option Told → Bool
comes_first way goal None = true
comes_first way goal (Some x) = not (is_ahead way x.point goal)

abbrev pub goal_reached : Way → Point → Option Told → Option Point → Option Point
goal_reached way here found None = None
goal_reached way here found (Some goal) = if is_ahead way here goal && comes_first way goal found then Some goal else None

abbrev pub goal_or : Standing → Standing → Option Point → Standing
goal_or t otherwise None = otherwise
goal_or t otherwise (Some goal) = at_goal t goal

-- ---- on and back to what is told next

abbrev pub comes_to : Recorded → State → Way → Option Told → Standing
comes_to r s way found = goal_or s.standing (told_or r s (end_of r.rounds s.standing way) found) (goal_reached way s.standing.point found s.standing.goal)

pub record Continues (r : Recorded) (s : State) (way : Way) (t : Standing) : Type 0 where
  pub found : Option Told
  pub finds : Finds r way (all_told s None) s.standing.point found
  pub is : t ≡ comes_to r s way found

-- the search for it goes on a stretch of rounds at a time, and stands where the whole search does
abbrev pub SearchesTo : Recorded → State → Way → Searched → Type 0
SearchesTo r s way (Stands t) = Continues r s way t
SearchesTo r s way (GoesOn x) = (x.reach.way ≡ way) × HasCome r s x

-- where a search has come to so many rounds, the goal lies in those that it has looked through, or before what it has found there
abbrev pub is_passed : Way → ℕ → Point → Bool
is_passed On to goal = nat_lt goal.moment.rounds to
is_passed Back to goal = nat_le to goal.moment.rounds

abbrev pub passed_first : Way → ℕ → Point → Option Told → Bool
passed_first way to goal None = is_passed way to goal
passed_first way to goal (Some x) = not (is_ahead way x.point goal)

abbrev pub goal_passed : Way → ℕ → Point → Option Told → Option Point → Option Point
goal_passed way to here found None = None
goal_passed way to here found (Some goal) = if is_ahead way here goal && passed_first way to goal found then Some goal else None

-- a search of the session
pub record IsUnderWay (d : Debugged) (s : State) (x : Search) : Type 0 where
  pub within : x.reach.rounds ≤ d.timeline.rounds
  pub asks : AsksFor (all_told s None) x.telling
  pub come : OfRun d (λ r. HasCome r s x)

abbrev pub IsSearched : Debugged → State → Searched → Type 0
IsSearched d s (Stands t) = IsReady d t
IsSearched d s (GoesOn x) = IsUnderWay d s x

-- one that is interrupted stands before all that is told in the next round, of the hart that was told last
abbrev pub interrupted : Standing → ℕ → Standing
interrupted t n = moved t (record (start_of n) { side = After }) (Signal 2) t.told
