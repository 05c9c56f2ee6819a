use Rattle.std.proofs.Common.{◌≡◌, ◌*◌, ◌^◌, bit_xor}
use Rattle.checksums.specs.Checksums.{times_x_to}
use Rattle.checksums.proofs.checksum.with_byte.Given as goal

abbrev pub invariant-loop-done : goal.invariant-loop-done
invariant-loop-done l = l.product ≡ times_x_to l.done (bit_xor l.fn.remainder (l.fn.byte * 2 ^ 24))
