use Rattle.std.proofs.Common.{◌≡◌, ◌≤◌, ◌-◌, ◌++◌, [], drop, length, map}
use Rattle.run_events.specs.Parts.{pc_in_parts}
use Rattle.run_events.proofs.parts.pcs_in_parts.Given as goal

-- the pcs so far are told
abbrev pub invariant-loop-done : goal.invariant-loop-done
invariant-loop-done l = (l.done ≤ length l.events) × (l.pcs.items ++ map (pc_in_parts l.machine) (drop l.done l.events) ≡ [] ++ map (pc_in_parts l.machine) l.events)

abbrev pub decreases-loop-done : goal.decreases-loop-done
decreases-loop-done l = length l.events - l.done
