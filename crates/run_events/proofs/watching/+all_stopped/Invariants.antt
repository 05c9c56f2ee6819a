use Rattle.std.proofs.Common.{length}
use Rattle.run_events.proofs.watching.+all_stopped.Given as goal

abbrev pub decreases-all_stopped : goal.decreases-all_stopped
decreases-all_stopped l = length l.harts.now
