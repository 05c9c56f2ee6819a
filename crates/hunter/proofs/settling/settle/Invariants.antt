use Rattle.std.proofs.Common.{◌≡◌, ◌+◌, ◌-◌, ◌≤◌}
use Rattle.machine.specs.Untraced.{IsAfter}
use Rattle.hunter.proofs.settling.settle.Given as goal

-- all but so many rounds are done
abbrev pub invariant-loop-left : goal.invariant-loop-left
invariant-loop-left g l =
    IsAfter (l.rounds - l.left) l.fn.machine l.machine
    × (l.machine.rounds ≡ l.fn.machine.rounds + (l.rounds - l.left))
    × (l.left ≤ l.rounds)

abbrev pub decreases-loop-left : goal.decreases-loop-left
decreases-loop-left g l = l.left
