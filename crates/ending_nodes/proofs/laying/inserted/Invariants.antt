use Rattle.std.proofs.Common.{◌≡◌, ℕ, false, IsTrue, take}
use Rattle.all_endings.specs.StoreLists.{has_byte}
use Rattle.all_endings.specs.Tables.{memory_of}
use Rattle.hart_states.specs.States.{listed, stored_of}
use Rattle.ending_nodes.specs.Memories.{Leaves}
use Rattle.ending_nodes.proofs.laying.inserted.Given as goal

abbrev pub invariant-loop-other : goal.invariant-loop-other
invariant-loop-other l = record {
  others : (opening : ℕ → ℕ) (x : ℕ) → has_byte (stored_of l.store) x ≡ false →
      memory_of (listed l.all.items) opening x ≡ memory_of (listed (take l.other-index l.behind)) opening x;
  stands : IsTrue l.stands → Leaves (stored_of l.store) (listed l.all.items);
}
