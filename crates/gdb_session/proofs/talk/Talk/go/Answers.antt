use Rattle.std.proofs.Common.{◌≡◌, Some, ap, refl, subst}
use Rattle.watching.specs.declared.watchpoint.Way.{Way}
use Rattle.gdb_runs.specs.Sessions.{recorded_of, state_of}
use Rattle.gdb_talk.specs.Saying.{response_text}
use Rattle.gdb_session.specs.Serving.{TakesUp, request_for, talking}
use Rattle.gdb_session.proofs.Resuming.{lost}
use Rattle.gdb_session.proofs.talk.Talk.go.Goals as goal

pub returns-in-Ok-clause-goes : goal.returns-in-Ok-clause-goes
returns-in-Ok-clause-goes g c = λ m is.
    let W : Way → Type 0 = λ w. TakesUp (recorded_of m c.args.run.now) (state_of c.args.self.now.session) (request_for w) (response_text c.go_on.result) (talking c.go_on.new.self) in
    subst W c.in-Ok.ensures.way (c.go_on.ensures.goes m is)

pub returns-in-Err-clause-goes : goal.returns-in-Err-clause-goes
returns-in-Err-clause-goes g c = λ m is.
    (lost (recorded_of m c.args.run.now) (state_of c.args.self.now.session) c.args.way _ _ refl refl, ap Some c.request_for.ensures)
