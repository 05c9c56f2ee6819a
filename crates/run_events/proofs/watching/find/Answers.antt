use Rattle.std.proofs.Common.{[], arith}
use Rattle.machine.specs.Machine.{after_rounds}
use Rattle.run_events.proofs.Walked.{keeps_all}
use Rattle.run_events.proofs.watching.find.Goals as goal

pub walk_keeping-requires-clause-sound : goal.walk_keeping-requires-clause-sound
walk_keeping-requires-clause-sound g c = λ lifetimes within.
    ([], c.new-watcher.ensures, c.check_to_go_on.ensures c.args.rounds [] (omega (arith, c.requires.start.opened)) (c.requires.start.run.0, c.requires.start.run.1, ([], c.requires.start.run.2)))

pub returns : goal.returns
returns g c = λ m is none.
    let walked = c.in_ok-walk_keeping.ensures in
    c.into_found.ensures (after_rounds c.args.rounds m).state.trace
    (keeps_all c.in_ok-walk_keeping.field-0 c.args.rounds c.args.machine.now c.walk_keeping.new.self _ _ m walked.done walked.most walked.ended is none c.new-watcher.ensures)
