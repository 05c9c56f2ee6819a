use Rattle.std.proofs.Common.{◌≡◌, take}
use Rattle.gdb_events.specs.Buffers.{store_lines}
use Rattle.gdb_events.proofs.buffer.store_lines.Given as goal

abbrev pub invariant-loop-store : goal.invariant-loop-store
invariant-loop-store l = l.text.items ≡ store_lines (take l.store-index l.stores)
