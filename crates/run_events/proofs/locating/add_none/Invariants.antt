use Rattle.std.proofs.Common.{◌≡◌, ◌≤◌, ◌-◌, ◌++◌, None, length, map, take}
use Rattle.run_events.proofs.locating.add_none.Given as goal

-- so many are told
abbrev pub invariant-loop-done : goal.invariant-loop-done
invariant-loop-done l = (l.done ≤ length l.events) × (l.pcs.items ≡ l.fn.pcs.items ++ map (λ _. None) (take l.done l.events))

abbrev pub decreases-loop-done : goal.decreases-loop-done
decreases-loop-done l = length l.events - l.done
