use Rattle.std.proofs.Common.{◌≡◌, length}
use Rattle.fence_table.specs.Accepting.{has_gap}
use Rattle.fence_table.proofs.accepted.Accepted.has.Given as goal

-- none of the words before these is of the gap
abbrev pub invariant-loop-rest : goal.invariant-loop-rest
invariant-loop-rest l = has_gap l.self l.gap ≡ has_gap l.rest l.gap

abbrev pub decreases-loop-rest : goal.decreases-loop-rest
decreases-loop-rest l = length l.rest
