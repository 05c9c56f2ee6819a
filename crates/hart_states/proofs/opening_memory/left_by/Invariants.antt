use Rattle.std.proofs.Common.{◌≡◌, ℕ}
use Rattle.all_endings.specs.StoreLists.{byte_at, last_place}
use Rattle.hart_states.specs.States.{listed}
use Rattle.hart_states.proofs.opening_memory.left_by.Given as goal

abbrev pub invariant-loop-store : goal.invariant-loop-store
invariant-loop-store l = (opening : ℕ → ℕ) → l.before ≡ opening l.address → l.byte ≡ byte_at (listed l.list) opening l.address (last_place (listed l.list) l.address l.store-index)
