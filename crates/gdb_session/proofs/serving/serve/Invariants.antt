use Rattle.std.proofs.Common.{◌≡◌}
use Rattle.machine.specs.Machine.{Running}
use Rattle.machine.specs.Untraced.{IsUntraced}
use Rattle.std.specs.Prelude.{IfSome}
use Rattle.gdb_resumes.specs.Resumes.{IsUnderWay}
use Rattle.gdb_runs.specs.Sessions.{IsReady, recorded_of, state_of}
use Rattle.gdb_session.specs.Serving.{Served, talking}
use Rattle.gdb_session.proofs.serving.serve.Given as goal

abbrev pub invariant-loop-i : goal.invariant-loop-i
invariant-loop-i g l =
    (l.run ≡ l.fn.run)
    × IsReady l.fn.run l.talk.session.standing
    × IfSome l.talk.searching (λ x. IsUnderWay l.fn.run (state_of l.talk.session) x)
    × ((m : Running) → IsUntraced m l.fn.run.timeline.start →
    Served (recorded_of m l.fn.run) (g.S.Source.gave l.fn.src) (g.S.Source.gave l.src) (g.K.Sink.took l.fn.out) (g.K.Sink.took l.out) l.reader (talking l.talk))
