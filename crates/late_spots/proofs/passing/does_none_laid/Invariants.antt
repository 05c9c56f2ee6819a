use Rattle.std.proofs.Common.{◌≡◌, ◌<◌, ℕ, false, slice_index_or}
use Rattle.all_endings.specs.StoreLists.{no_store}
use Rattle.hart_states.specs.States.{listed, state_of}
use Rattle.list_suffixes.specs.Staying.{stays_at}
use Rattle.late_spots.specs.LateRuns.{IsDoneAt}
use Rattle.late_spots.proofs.passing.does_none_laid.Given as goal

abbrev pub invariant-loop-index : goal.invariant-loop-index
invariant-loop-index l = (j : ℕ) → j < l.index → stays_at l.stays j ≡ false → IsDoneAt l.hart (state_of l.state) j (slice_index_or (listed l.list) j no_store)
