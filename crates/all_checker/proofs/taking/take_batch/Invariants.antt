use Rattle.std.proofs.Common.{◌≡◌, ◌+◌, ◌≤◌, length}
use Rattle.std.specs.Vec.Iter.{into_iter_items, into_iter_len}
use Rattle.own_moves.specs.Owned.{owns_of}
use Rattle.all_checker.specs.Nodes.{AreSightsFrom}
use Rattle.all_checker.specs.Tables.{AreTaken}
use Rattle.all_checker.proofs.taking.take_batch.Given as goal

-- so many are taken in, and what is left is of the next ones
abbrev pub invariant-loop-slot : goal.invariant-loop-slot
invariant-loop-slot l = record {
  taken : AreTaken (owns_of l.program.owned.now) l.program.steps l.program.pages.now.memory l.guest.harts.now l.guest.see.now l.taken;
  left : into_iter_len l.slot-iterator ≡ length (into_iter_items l.slot-iterator);
  done : l.taken.done + length (into_iter_items l.slot-iterator) ≡ l.fn.taken.done + length l.fn.slots.items;
  within : l.taken.done + length (into_iter_items l.slot-iterator) ≤ length l.taken.nodes.all.items;
  sights : AreSightsFrom (owns_of l.program.owned.now) l.program.steps l.program.pages.now.memory (length l.program.maps.now) l.guest.see.now l.taken.nodes.all.items l.taken.done (into_iter_items l.slot-iterator);
}
