use Rattle.std.proofs.Common.{Option, ap, ◌∙◌}
use Rattle.machine.specs.Machine.{after_rounds}
use Rattle.past_harts.specs.declared.point.Point.{Point}
use Rattle.round_steps.specs.declared.told.Told.{Told}
use Rattle.round_steps.specs.Points.{next_point_of}
use Rattle.gdb_resumes.specs.Goals.{goal_if}
use Rattle.gdb_resumes.proofs.goals.goal_at_count.Goals as goal

pub returns-clause-goal : goal.returns-clause-goal
returns-clause-goal g c = λ m is.
    let t = c.only_of-telling.result in
    let n = c.args.rounds in
    let N : Point → Option Told = λ p. next_point_of t.asked t.watches.items (after_rounds n m) 1 p in
    record {
      telling = t;
      asks = c.only_of-telling.ensures;
      is = c.goal_if.ensures ∙ ap (goal_if n c.args.hart c.args.count) (c.in_ok-found.ensures.next m is ∙ ap N c.place_from-from.ensures);
    }
