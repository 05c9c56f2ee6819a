use Rattle.std.proofs.Common.{length}
use Rattle.gdb_packets.proofs.fields.+behind_spelled.Given as goal

abbrev pub decreases-behind_spelled : goal.decreases-behind_spelled
decreases-behind_spelled l = length l.word.now
