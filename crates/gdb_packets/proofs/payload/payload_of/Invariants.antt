use Rattle.std.proofs.Common.{◌≡◌, ◌≤◌, length, None}
use Rattle.gdb_packets.specs.Payload.{most, read_behind, read_on}
use Rattle.gdb_packets.proofs.payload.payload_of.Given as goal

-- what was read, and what is left, is what the data stands for
abbrev pub invariant-loop-rest : goal.invariant-loop-rest
invariant-loop-rest l = record {
  read : read_on l.payload.items l.rest ≡ read_behind None l.fn.bytes;
  short : length l.payload.items ≤ most;
}

abbrev pub decreases-loop-rest : goal.decreases-loop-rest
decreases-loop-rest l = length l.rest
