use Rattle.std.proofs.Common.{length}
use Rattle.store_buffer.specs.Slots.{up_to}
use Rattle.store_buffer.proofs.LineChains.{IsNext}
use Rattle.store_buffer.proofs.slots.find.Given as goal

abbrev pub invariant-loop-next : goal.invariant-loop-next
invariant-loop-next l = IsNext l.lines (length l.latest) l.number l.next

abbrev pub decreases-loop-next : goal.decreases-loop-next
decreases-loop-next l = up_to l.next
