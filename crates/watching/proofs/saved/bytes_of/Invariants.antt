use Rattle.std.proofs.Common.{◌≡◌, take, drop}
use Rattle.watching.proofs.saved.bytes_of.Given as goal

abbrev pub invariant-loop-offset : goal.invariant-loop-offset
invariant-loop-offset l = l.bytes.items ≡ take l.offset (drop l.first l.pages.memory.bytes)
