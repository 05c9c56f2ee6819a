use Rattle.execution_session.specs.Serving.{Served, talking}
use Rattle.execution_moments.specs.Looked.{looked_at}
use Rattle.execution_session.proofs.serving.serve.Given as goal

abbrev pub invariant-loop-i : goal.invariant-loop-i
invariant-loop-i g l =
    Served (looked_at l.past) (g.S.Source.gave l.fn.src) (g.S.Source.gave l.src) (g.K.Sink.took l.fn.out) (g.K.Sink.took l.out) l.reader (talking l.talk)
