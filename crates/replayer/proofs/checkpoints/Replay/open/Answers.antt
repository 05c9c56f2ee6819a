use Rattle.std.proofs.Common.{ap, Err}
use Rattle.replayer.proofs.Refused.{out_of_memory}
use Rattle.replayer.proofs.checkpoints.Replay.open.Goals as goal

pub returns-in-Err-clause-in_order : goal.returns-in-Err-clause-in_order
returns-in-Err-clause-in_order g c =
    out_of_memory c.args.workers c.args.recording.now c.in_ok-start.start _ c.in_ok-start.ensures.in_order c.in_ok-start.ensures.in_range (ap Err c.in-Err.ensures.refused)
