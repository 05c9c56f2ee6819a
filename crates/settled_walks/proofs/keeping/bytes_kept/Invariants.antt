use Rattle.std.proofs.Common.{ℕ}
use Rattle.hart_states.specs.States.{listed}
use Rattle.settled_walks.proofs.KeptBytes.{KeptTo}
use Rattle.settled_walks.proofs.keeping.bytes_kept.Given as goal

abbrev pub invariant-loop-index : goal.invariant-loop-index
invariant-loop-index l = (x : ℕ) → KeptTo l.stays (listed l.list) l.index l.bytes l.kept.items x
