use Rattle.machine.specs.Machine.{after_rounds}
use Rattle.gdb_events.proofs.round_events.events_of_round.Goals as goal

pub next_events-events-requires-clause-run : goal.next_events-events-requires-clause-run
next_events-events-requires-clause-run g c κs within =
    let run = c.requires.run in
    (after_rounds c.args.rounds run.0, c.in_ok-machine.ensures.machine run.0 run.1)

pub returns-clause-events : goal.returns-clause-events
returns-clause-events g c = λ m is.
    c.next_events-events.ensures.events (after_rounds c.args.rounds m) (c.in_ok-machine.ensures.machine m is)
