use Rattle.std.proofs.Common.{◌≡◌, [], take}
use Rattle.store_buffer.specs.Covered.{with_stores}
use Rattle.gdb_answers.proofs.covering.bytes_covered.Given as goal

abbrev pub invariant-loop-store : goal.invariant-loop-store
invariant-loop-store l = l.covered ≡ with_stores [] (take l.store-index l.stores)
