use Rattle.std.proofs.Common.{◌≡◌, ◌⊎◌, ℕ, true, false, drop}
use Rattle.all_endings.specs.StoreLists.{has_byte}
use Rattle.hart_states.specs.States.{stored_of}
use Rattle.early_reads.specs.Checking.{is_loaded}
use Rattle.late_spots.proofs.passing.misses_each.Given as goal

abbrev pub invariant-loop-bytes : goal.invariant-loop-bytes
invariant-loop-bytes l = (x : ℕ) → is_loaded l.loads x ≡ true → (is_loaded (drop l.bytes-index l.loads) x ≡ true) ⊎ (has_byte (stored_of l.store) x ≡ false)
