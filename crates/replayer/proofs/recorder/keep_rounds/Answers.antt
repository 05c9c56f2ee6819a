use Rattle.std.proofs.Common.{map, refl}
use Rattle.recording.specs.Views.{checkpoint_view}
use Rattle.replayer.proofs.Recorded.{none_recorded, recorded_all, recorded_each}
use Rattle.replayer.proofs.recorder.keep_rounds.Goals as goal

pub walk-requires-clause-known : goal.walk-requires-clause-known
walk-requires-clause-known g c = λ lifetimes within. (refl, rw c.new.ensures.items (none_recorded c.args.every c.args.machine.now c.args.rounds c.requires.opened c.requires.run.0 c.requires.run.1))

pub returns-clause-checkpoints : goal.returns-clause-checkpoints
returns-clause-checkpoints g c = λ m i.
    let walked = c.in_ok-walk.ensures in
    recorded_all (map checkpoint_view c.walk.new.visitor.checkpoints.items) c.args.every c.args.machine.now c.args.rounds _ m walked.known.1 walked.ended i

pub returns-clause-ranges : goal.returns-clause-ranges
returns-clause-ranges g c =
    let walked = c.in_ok-walk.ensures in
    recorded_each (map checkpoint_view c.walk.new.visitor.checkpoints.items) c.args.every c.args.machine.now c.args.rounds _ walked.known.1 walked.ended
