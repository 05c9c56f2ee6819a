use Rattle.std.proofs.Common.{◌≡◌, drop}
use Rattle.run_bounds.specs.Touched.{known_at}
use Rattle.run_bounds.proofs.touched.byte_known.Given as goal

abbrev pub invariant-loop-byte : goal.invariant-loop-byte
invariant-loop-byte l = known_at (drop l.byte-index l.bytes) l.address ≡ known_at l.bytes l.address
