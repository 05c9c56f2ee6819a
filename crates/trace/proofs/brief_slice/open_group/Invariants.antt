use Rattle.std.proofs.Common.{◌≡◌, length}
use Rattle.trace.specs.Briefs.{in_turn}
use Rattle.trace.proofs.brief_slice.open_group.Given as goal

abbrev pub invariant-loop-group : goal.invariant-loop-group
invariant-loop-group l = record {
  none : length l.briefs.now ≡ 0;
  left : in_turn l.groups.now ≡ in_turn l.fn.groups.now;
}

abbrev pub decreases-loop-group : goal.decreases-loop-group
decreases-loop-group l = length l.groups.now
