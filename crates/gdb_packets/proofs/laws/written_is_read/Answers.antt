use Rattle.gdb_packets.proofs.Written.{written}
use Rattle.gdb_packets.proofs.laws.written_is_read.Goals as goal

pub returns : goal.returns
returns c = written
