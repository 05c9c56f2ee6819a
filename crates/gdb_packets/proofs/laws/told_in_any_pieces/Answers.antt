use Rattle.gdb_packets.proofs.Pieces.{in_pieces}
use Rattle.gdb_packets.proofs.laws.told_in_any_pieces.Goals as goal

pub returns : goal.returns
returns c = in_pieces
