use Rattle.std.proofs.Common.{◌++◌, List, append-nil, ap, sym, ◌∙◌}
use Rattle.round_schedule.specs.declared.event.Event.{Event}
use Rattle.gdb_events.proofs.Rounds.{events_added, events_are}
use Rattle.gdb_events.proofs.round_events.next_events.Goals as goal

pub run_noting-requires-after_bounds : goal.run_noting-requires-after_bounds
run_noting-requires-after_bounds g c κs within =
    let run = c.requires.run in
    let t : List Event = run.0.state.trace in
    (run.0, run.1, (t, sym (append-nil t) ∙ ap (λ (es : List Event). t ++ es) (sym c.new-trace.ensures.events)))

pub returns-clause-events : goal.returns-clause-events
returns-clause-events g c = λ m is.
    let ran = rw c.in_ok-of_memory.ensures at c.run_noting.ensures in
    c.in_ok-events.ensures.events
    ∙ events_are m c.args.machine.now c.new-trace.result.events c.run_noting.new.trace.events is c.new-trace.ensures.events ran.answers.ok.1

pub returns-clause-trace : goal.returns-clause-trace
returns-clause-trace g c = λ m is.
    let ran = rw c.in_ok-of_memory.ensures at c.run_noting.ensures in
    events_added m c.args.machine.now c.new-trace.result.events c.run_noting.new.trace.events is ran.answers.ok.1
