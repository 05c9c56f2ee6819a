use Rattle.store_buffer.proofs.LineChains.{IsChaining}
use Rattle.store_buffer.proofs.slots.chain.Given as goal

abbrev pub invariant-loop-index : goal.invariant-loop-index
invariant-loop-index l = IsChaining l.index l.fn.lines l.lines l.fn.latest l.latest
