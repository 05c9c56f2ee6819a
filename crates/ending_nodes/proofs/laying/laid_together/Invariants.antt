use Rattle.std.proofs.Common.{◌≡◌, ℕ, take}
use Rattle.all_endings.specs.Tables.{memory_of}
use Rattle.hart_states.specs.States.{listed}
use Rattle.ending_nodes.proofs.laying.laid_together.Given as goal

abbrev pub invariant-loop-store : goal.invariant-loop-store
invariant-loop-store l = (opening : ℕ → ℕ) (x : ℕ) → memory_of (listed l.all.items) opening x ≡ memory_of (listed (take l.store-index l.list)) (memory_of (listed l.behind) opening) x
