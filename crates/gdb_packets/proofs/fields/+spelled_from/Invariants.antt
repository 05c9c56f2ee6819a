use Rattle.std.proofs.Common.{length}
use Rattle.gdb_packets.proofs.fields.+spelled_from.Given as goal

abbrev pub decreases-spelled_from : goal.decreases-spelled_from
decreases-spelled_from l = length l.text.now
