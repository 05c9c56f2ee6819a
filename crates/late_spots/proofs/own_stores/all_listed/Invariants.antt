use Rattle.std.proofs.Common.{ℕ, ◌<◌, get_or}
use Rattle.run_bounds.specs.declared.touched.TouchedByte.{TouchedByte}
use Rattle.hart_states.specs.States.{listed}
use Rattle.late_spots.specs.LateRuns.{IsOwnListed}
use Rattle.late_spots.proofs.own_stores.all_listed.Given as goal

abbrev pub invariant-loop-index : goal.invariant-loop-index
invariant-loop-index l = (k : ℕ) (d : TouchedByte) → k < l.index → IsOwnListed (listed l.list) (get_or l.bytes k d).address (get_or l.bytes k d)
