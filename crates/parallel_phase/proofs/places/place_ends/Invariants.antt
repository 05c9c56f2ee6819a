use Rattle.std.proofs.Common.{◌≡◌, length, vec_capacity, vec_len}
use Rattle.parallel_phase.proofs.Placing.{Placed}
use Rattle.parallel_phase.proofs.places.place_ends.Given as goal

abbrev pub invariant-loop-entry : goal.invariant-loop-entry
invariant-loop-entry g l = record {
  placed : Placed l.round (length l.fn.ends) l.history.items l.ends;
  room : vec_capacity l.history ≡ vec_capacity l.fn.history;
}

abbrev pub decreases-loop-entry : goal.decreases-loop-entry
decreases-loop-entry g l = vec_len l.history
