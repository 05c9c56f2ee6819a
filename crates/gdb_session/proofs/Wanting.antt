-- Where the next run is to stop, when the user has said so.
use Rattle.std.proofs.Common.{◌≡◌, ℕ, ◌<◌, List, Bool, true, false, Option, Some, None, sym, ap, subst}
use Rattle.std.specs.Prelude.{IfSome, ◌||◌, if◌then◌else◌}
use Rattle.hex.specs.Hex.{encode_lower}
use Rattle.gdb_packets.specs.Writing.{packet_text}
use Rattle.gdb_packets.specs.declared.command.Command.{Command}
use Rattle.gdb_packets.specs.declared.command.Command.TheVariants as commands
use Rattle.gdb_packets.specs.declared.request.Request.TheVariants as requests
use Rattle.past_harts.specs.declared.point.Point.{Point}
use Rattle.past_harts.specs.Points.{same_moment}
use Rattle.gdb_runs.specs.declared.debugged.Debugged.{Debugged}
use Rattle.gdb_resumes.specs.declared.goals.Goal.{Goal}
use Rattle.gdb_resumes.specs.declared.goals.Goal.TheVariants as goals
use Rattle.gdb_runs.specs.declared.session.Standing.{Standing}
use Rattle.gdb_resumes.specs.Goals.{IsGoalWithin}
use Rattle.gdb_runs.specs.Sessions.{IsReady, Recorded, State}
use Rattle.gdb_session.specs.Answers.{Answers, AnswersBy, GoesTo, IsGoal, Sets, command_text, goal_text, goal_then, is_goto, is_hits, or_else, with_goal}

abbrev pub IsThere : Debugged → Point → Type 0
IsThere d at = (at.moment.rounds < d.timeline.rounds) × (at.moment.place.hart < d.harts)

unless : (P : Point → Type 0) (b : Bool) (at : Point) → P at → IfSome (if b then None else Some at) P
unless P true at p = tt
unless P false at p = p

pub still_there : (d : Debugged) (t : Standing) (goal : Goal) → IsGoalWithin d goal → IfSome t.goal (IsThere d) → IfSome (goal_then t goal) (IsThere d)
still_there d t (goals.At at) within before = unless (IsThere d) (same_moment t.point.moment at.moment) at within
still_there d t goals.End within before = tt
still_there d t goals.NoRound within before = before
still_there d t goals.NoHart within before = before
still_there d t goals.NoPlace within before = before

-- a session is ready with such a goal
pub ready_with : (d : Debugged) (t : Standing) (goal : Goal) (then' : Option Point) → IsReady d t → IsGoalWithin d goal → then' ≡ goal_then t goal → IsReady d (record t { goal = then' })
ready_with d t goal then' ready within is = record {
  harts = ready.harts;
  all = ready.all;
  workers = ready.workers;
  start = ready.start;
  fresh = ready.fresh;
  run = ready.run;
  rounds = ready.rounds;
  within = ready.within;
  told = ready.told;
  general = ready.general;
  moving = ready.moving;
  goal = subst (λ (o : Option Point). IfSome o (IsThere d)) (sym is) (still_there d t goal within ready.goal);
}

goal_set : (r : Recorded) (s : State) (command : Command) (written : List ℕ) (t : State) → is_goto command ≡ true → GoesTo r s command written t → Sets r s command written t
goal_set r s commands.Where written t e x = x
goal_set r s commands.Harts written t e x = x
goal_set r s commands.Buffer written t e x = x
goal_set r s commands.Event written t e x = x
goal_set r s commands.Reservations written t e x = x
goal_set r s (commands.GotoRound n) written t e x = x
goal_set r s (commands.GotoPlace n i p) written t e x = x
goal_set r s commands.GotoEnd written t e x = x
goal_set r s commands.Plan written t e x = x
goal_set r s commands.Output written t e x = x
goal_set r s commands.HitsOn written t e x = let none : false ≡ true = e in absurd cc
goal_set r s commands.HitsOff written t e x = let none : false ≡ true = e in absurd cc
goal_set r s commands.Help written t e x = x
goal_set r s commands.Unknown written t e x = x

-- and that is what the user is answered
pub goes_to : (r : Recorded) (s : State) (command : Command) (goal : Goal) (then' : Option Point) (written : List ℕ) → is_goto command ≡ true → IsGoal r command goal →
    then' ≡ goal_then s.standing goal → written ≡ packet_text (encode_lower (goal_text r s.standing goal)) →
    Answers r s (requests.Command command) written (with_goal s then')
goes_to r s command goal then' written goes is so wrote =
    let there : GoesTo r s command written (with_goal s then') = record {
      goal = goal;
      is = is;
      says = (wrote, ap (with_goal s) so);
    } in
    let A : Bool → Type 0 = λ b. AnswersBy (or_else None (if b || is_hits command then None else Some (command_text r s.standing command))) r s (requests.Command command) written (with_goal s then') in
    subst A (sym goes) (goal_set r s command written (with_goal s then') goes there)
