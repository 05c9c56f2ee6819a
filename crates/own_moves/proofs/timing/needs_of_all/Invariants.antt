use Rattle.std.proofs.Common.{◌≤◌, ◌<◌, ℕ, slice_index_or, option_map}
use Rattle.run_bounds.specs.declared.touched.TouchedByte.{TouchedByte}
use Rattle.hart_states.specs.States.{own_of}
use Rattle.private_bytes.specs.PrivateMoves.{needs_of}
use Rattle.own_moves.proofs.timing.needs_of_all.Given as goal

abbrev pub invariant-loop-k : goal.invariant-loop-k
invariant-loop-k l = (time : ℕ) → ((k : ℕ) (d : TouchedByte) → k < l.count → needs_of (option_map own_of (slice_index_or l.known k d).own) ≤ time) → l.needs ≤ time
