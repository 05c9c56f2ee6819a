use Rattle.std.proofs.Common.{◌≡◌, take}
use Rattle.checksums.specs.Checksums.{checksum_of}
use Rattle.checksums.proofs.checksum.checksum_of.Given as goal

abbrev pub invariant-loop-byte : goal.invariant-loop-byte
invariant-loop-byte l = l.remainder ≡ checksum_of (take l.byte-index l.bytes)
