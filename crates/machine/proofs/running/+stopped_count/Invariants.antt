use Rattle.std.proofs.Common.{length}
use Rattle.machine.proofs.running.+stopped_count.Given as goal

abbrev pub decreases-stopped_count : goal.decreases-stopped_count
decreases-stopped_count l = length l.harts.now
