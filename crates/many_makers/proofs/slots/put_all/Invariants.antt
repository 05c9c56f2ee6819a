use Rattle.std.proofs.Common.{◌≡◌, All, length}
use Rattle.std.specs.Vec.Iter.{into_iter_items}
use Rattle.many_makers.specs.Slots.{AreMade, IsMade}
use Rattle.many_makers.proofs.slots.put_all.Given as goal

-- what is in the slots, and what is left
abbrev pub invariant-loop-made : goal.invariant-loop-made
invariant-loop-made g l = record {
  count : length l.slots ≡ length l.initial.slots;
  slots : AreMade (λ k r. g.M.Fn.post l.make (k, tt) r) l.slots;
  left : All (IsMade (λ k r. g.M.Fn.post l.make (k, tt) r)) (into_iter_items l.made-iterator);
}
