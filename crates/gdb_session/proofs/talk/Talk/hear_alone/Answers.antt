use Rattle.std.proofs.Common.{◌≡◌, Option, sym, subst, ◌∙◌}
use Rattle.gdb_packets.specs.declared.request.Request.{Request}
use Rattle.gdb_runs.specs.Sessions.{recorded_of}
use Rattle.gdb_talk.specs.Saying.{response_text}
use Rattle.gdb_session.specs.Serving.{HearsBy, talking}
use Rattle.gdb_session.proofs.talk.Talk.hear_alone.Goals as goal

pub returns-in-Some-clause-hears : goal.returns-in-Some-clause-hears
returns-in-Some-clause-hears g c = λ m is.
    let H : Option Request → Type 0 = λ o. HearsBy (recorded_of m c.args.run.now) (talking c.args.self.now) o (response_text c.take_up.result) (talking c.take_up.new.self) in
    subst H (sym (sym c.asked_by.ensures ∙ c.in-Some.is)) (c.take_up.ensures.takes m is)
