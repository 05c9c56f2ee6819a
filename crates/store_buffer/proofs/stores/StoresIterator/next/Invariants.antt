use Rattle.std.proofs.Common.{◌≡◌, ◌≤◌, ◌+◌, ◌^◌, ◌++◌, length}
use Rattle.store_buffer.specs.Held.{AllNear}
use Rattle.store_buffer.specs.Lines.{lines_bytes, whole_line}
use Rattle.store_buffer.proofs.stores.StoresIterator.next.Given as goal

abbrev pub invariant-loop-self : goal.invariant-loop-self
invariant-loop-self l = record {
  same : whole_line l.self-inside.start l.self-inside.line ++ lines_bytes l.self-inside.rest ≡ l.fn.self;
  within : l.self-inside.start + 64 ≤ 2 ^ 64;
  near : AllNear l.self-inside.rest;
}

abbrev pub decreases-loop-self : goal.decreases-loop-self
decreases-loop-self l = length l.self-inside.rest
