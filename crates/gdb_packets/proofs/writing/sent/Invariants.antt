use Rattle.std.proofs.Common.{◌≡◌, take}
use Rattle.gdb_packets.specs.Writing.{sent}
use Rattle.gdb_packets.proofs.writing.sent.Given as goal

abbrev pub invariant-loop-byte : goal.invariant-loop-byte
invariant-loop-byte l = l.text.items ≡ sent (take l.byte-index l.payload)
