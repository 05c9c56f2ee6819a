use Rattle.std.proofs.Common.{◌+◌, ◌*◌}
use Rattle.report.proofs.blocks.+workers.Given as goal

abbrev pub decreases-put_with : goal.decreases-put_with
decreases-put_with g l = 3 * l.others

abbrev pub decreases-put_beside : goal.decreases-put_beside
decreases-put_beside g l = 3 * l.others + 2

abbrev pub decreases-put_beside-ours : goal.decreases-put_beside-ours
decreases-put_beside-ours g l = 3 * l.others + 1
