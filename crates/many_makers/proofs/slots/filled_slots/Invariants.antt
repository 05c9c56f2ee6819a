use Rattle.std.proofs.Common.{◌≡◌, All, length}
use Rattle.std.specs.Vec.Iter.{into_iter_items}
use Rattle.many_makers.specs.Slots.{AreMade, IsMade}
use Rattle.many_makers.proofs.slots.filled_slots.Given as goal

-- what is in the slots, and what is left
abbrev pub invariant-loop-list : goal.invariant-loop-list
invariant-loop-list g l = record {
  count : length l.slots.items ≡ l.fn.count;
  slots : AreMade (λ k r. g.M.Fn.post l.make (k, tt) r) l.slots.items;
  left : All (λ made. All (IsMade (λ k r. g.M.Fn.post l.make (k, tt) r)) made.items) (into_iter_items l.list-iterator);
}
