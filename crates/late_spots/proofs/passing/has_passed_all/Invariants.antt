use Rattle.std.proofs.Common.{◌≡◌, ◌<◌, ℕ, false}
use Rattle.hart_states.specs.States.{state_of}
use Rattle.list_suffixes.specs.Staying.{stays_at}
use Rattle.early_reads.specs.Windows.{loads_from}
use Rattle.late_spots.proofs.passing.has_passed_all.Given as goal

abbrev pub invariant-loop-index : goal.invariant-loop-index
invariant-loop-index l = (k : ℕ) → k < l.index → stays_at l.stays k ≡ false → k < loads_from (state_of l.state)
