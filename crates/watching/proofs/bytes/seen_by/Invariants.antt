use Rattle.std.proofs.Common.{◌≡◌, ◌≤◌, length, take}
use Rattle.watching.specs.Events.{seen_by}
use Rattle.watching.proofs.bytes.seen_by.Given as goal

abbrev pub invariant-loop-left : goal.invariant-loop-left
invariant-loop-left l = (l.left ≤ length l.earlier) × (seen_by l.event l.address l.byte l.earlier ≡ seen_by l.event l.address l.byte (take l.left l.earlier))

abbrev pub decreases-loop-left : goal.decreases-loop-left
decreases-loop-left l = l.left
