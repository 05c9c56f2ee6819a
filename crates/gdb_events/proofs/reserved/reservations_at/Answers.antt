use Rattle.machine.specs.Machine.{after_rounds}
use Rattle.gdb_events.proofs.reserved.reservations_at.Goals as goal

pub returns-clause-tied : goal.returns-clause-tied
returns-clause-tied g c = λ m is.
    let here = after_rounds c.args.moment.rounds m in
    c.in_ok-note_seen.ensures.tied here (c.in_ok-reservations.ensures.runs m is) here.state.trace (c.in_ok-reservations.ensures.tied m is)
