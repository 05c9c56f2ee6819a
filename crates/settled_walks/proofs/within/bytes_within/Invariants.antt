use Rattle.std.proofs.Common.{ℕ, ◌<◌, get_or}
use Rattle.run_bounds.specs.declared.touched.TouchedByte.{TouchedByte}
use Rattle.run_bounds.specs.Touched.{known_at}
use Rattle.settled_walks.specs.Within.{IsByteWithin}
use Rattle.settled_walks.proofs.within.bytes_within.Given as goal

abbrev pub invariant-loop-index : goal.invariant-loop-index
invariant-loop-index l = (k : ℕ) (d : TouchedByte) → k < l.index → IsByteWithin l.time (known_at l.bytes (get_or l.bytes k d).address)
