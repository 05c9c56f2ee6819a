use Rattle.std.proofs.Common.{ap, subst}
use Rattle.gdb_runs.specs.declared.session.Standing.{Standing}
use Rattle.gdb_runs.specs.Sessions.{recorded_of, state_of}
use Rattle.gdb_talk.specs.Saying.{response_text}
use Rattle.gdb_session.specs.Serving.{StandsOrLost}
use Rattle.gdb_session.specs.declared.talk.Talk.{Talk}
use Rattle.gdb_session.proofs.talk.Talk.end_search.Goals as goal

pub returns-clause-ends : goal.returns-clause-ends
returns-clause-ends g c = λ m is.
    let S : Standing → Type 0 = λ x. StandsOrLost (recorded_of m c.args.run.now) (state_of c.args.self.now.session) x (response_text c.stand.result) (state_of c.stand.new.self.session) in
    let same = c.stand.ensures.same in
    (subst S c.interrupted-standing.ensures.stands (c.stand.ensures.stands m is), ap (λ (x : Talk). x.searching) same, ap (λ (x : Talk). x.last) same)
