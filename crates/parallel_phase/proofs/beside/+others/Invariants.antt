use Rattle.std.proofs.Common.{◌+◌, ◌*◌, length}
use Rattle.parallel_phase.proofs.beside.+others.Given as goal

abbrev pub decreases-work_on_each : goal.decreases-work_on_each
decreases-work_on_each g l = 3 * length l.others.now

abbrev pub decreases-work_beside : goal.decreases-work_beside
decreases-work_beside g l = 3 * length l.others.now + 2

abbrev pub decreases-work_beside-ours : goal.decreases-work_beside-ours
decreases-work_beside-ours g l = 3 * length l.others.now + 1
