use Rattle.std.proofs.Common.{◌≡◌, ◌+◌}
use Rattle.std.proofs.lemmas.Result.{IfOk-weaker}
use Rattle.machine.specs.Machine.{after_rounds}
use Rattle.watching.specs.declared.watchpoint.Way.TheVariants.{On}
use Rattle.round_steps.specs.Points.{next_point_of}
use Rattle.gdb_resumes.specs.Searches.{IsPassed}
use Rattle.gdb_runs.specs.Sessions.{recorded_of}
use Rattle.gdb_resumes.proofs.Passing.{passed_on}
use Rattle.gdb_resumes.proofs.searching.look_on.Goals as goal

pub returns-clause-passed : goal.returns-clause-passed
returns-clause-passed g c = λ m is.
    let d = c.args.run.now in
    let t = c.args.telling.now in
    let here = c.args.here.now in
    let n = c.args.rounds in
    let k = c.args.count in
    IfOk-weaker c.earliest_in.result (λ x. x ≡ next_point_of t.asked t.watches.items (after_rounds n m) k here)
    (λ x. IsPassed (recorded_of m d) On n (n + k) t here x)
    (λ x e. passed_on t.asked t.watches.items here m n k d.timeline.rounds x c.requires.within e) (c.earliest_in.ensures.next m is)
