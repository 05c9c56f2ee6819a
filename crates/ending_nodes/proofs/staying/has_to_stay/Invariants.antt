use Rattle.std.proofs.Common.{◌≡◌, ℕ, ◌<◌, true, get_or}
use Rattle.all_endings.specs.StoreLists.{has_byte, no_store}
use Rattle.hart_states.specs.States.{listed}
use Rattle.list_suffixes.specs.Staying.{stays_at}
use Rattle.ending_nodes.proofs.staying.has_to_stay.Given as goal

abbrev pub invariant-loop-before : goal.invariant-loop-before
invariant-loop-before l =
    (j x : ℕ) → j < l.before → stays_at l.stays j ≡ true → has_byte (get_or (listed l.list) j no_store) x ≡ true → has_byte (get_or (listed l.list) l.store no_store) x ≡ true → ⊥
