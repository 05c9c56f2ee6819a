use Rattle.std.proofs.Common.{◌≡◌, ◌-◌, ◌≤◌, arith}
use Rattle.std.proofs.lemmas.Result.{IfOk-weaker}
use Rattle.machine.specs.Machine.{after_rounds}
use Rattle.watching.specs.declared.watchpoint.Way.TheVariants.{Back}
use Rattle.round_steps.specs.Points.{previous_point_of}
use Rattle.gdb_resumes.specs.Searches.{IsPassed}
use Rattle.gdb_runs.specs.Sessions.{recorded_of}
use Rattle.gdb_resumes.proofs.Passing.{passed_back}
use Rattle.gdb_resumes.proofs.searching.look_back.Goals as goal

pub returns-clause-passed : goal.returns-clause-passed
returns-clause-passed g c = λ m is.
    let d = c.args.run.now in
    let t = c.args.telling.now in
    let here = c.args.here.now in
    let n = c.args.rounds in
    let b = c.args.rounds - c.args.count in
    let le : b ≤ n = omega arith in
    IfOk-weaker c.latest_in.result (λ x. x ≡ previous_point_of t.asked t.watches.items (after_rounds b m) (n - b) here)
    (λ x. IsPassed (recorded_of m d) Back n b t here x)
    (λ x e. passed_back t.asked t.watches.items here m b n x le e) (c.latest_in.ensures.previous m is)
