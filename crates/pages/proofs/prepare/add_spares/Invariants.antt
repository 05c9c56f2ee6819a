use Rattle.std.proofs.Common.{◌≤◌, ◌-◌, max, vec_len}
use Rattle.pages.proofs.prepare.add_spares.Given as goal

abbrev pub invariant-loop-alloc : goal.invariant-loop-alloc
invariant-loop-alloc l = record {
  few : vec_len l.spares ≤ max (vec_len l.initial.spares) l.unready;
}

abbrev pub decreases-loop-alloc : goal.decreases-loop-alloc
decreases-loop-alloc l = l.unready - vec_len l.spares
