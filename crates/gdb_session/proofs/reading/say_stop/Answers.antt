use Rattle.std.proofs.Common.{subst}
use Rattle.machine.specs.Untraced.{IsUntraced, Untraced}
use Rattle.gdb_session.proofs.reading.say_stop.Goals as goal

pub answer_hit-requires-clause-run : goal.answer_hit-requires-clause-run
answer_hit-requires-clause-run g c κs within =
    let ready = c.requires.ready in
    (ready.run.0, subst (λ (u : Untraced). IsUntraced ready.run.0 u) ready.start ready.run.1)
