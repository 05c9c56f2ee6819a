use Rattle.std.proofs.Common.{◌≡◌}
use Rattle.run_bounds.proofs.KnownBytes.{NoneBefore}
use Rattle.run_bounds.proofs.touched.set_byte.Given as goal

abbrev pub invariant-loop-index : goal.invariant-loop-index
invariant-loop-index l = record {
  same : l.bytes.items ≡ l.initial.bytes.items;
  before : NoneBefore l.bytes.items l.index l.byte.address;
}
