use Rattle.std.proofs.Common.{◌≡◌, ◌<◌, ℕ, false, slice_index_or}
use Rattle.all_endings.specs.StoreLists.{no_store}
use Rattle.hart_states.specs.States.{listed, state_of}
use Rattle.list_suffixes.specs.Staying.{stays_at}
use Rattle.early_reads.specs.Checking.{has_early}
use Rattle.early_reads.specs.Windows.{IsPassedAt}
use Rattle.late_spots.proofs.passing.has_passed.Given as goal

abbrev pub invariant-loop-index : goal.invariant-loop-index
invariant-loop-index l = (k : ℕ) → k < l.index → stays_at l.stays k ≡ false → IsPassedAt (has_early l.set) (state_of l.state) k (slice_index_or (listed l.list) k no_store)
