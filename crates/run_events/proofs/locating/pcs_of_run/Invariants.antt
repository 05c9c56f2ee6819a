use Rattle.std.proofs.Common.{◌≡◌, ◌≤◌, ◌-◌, ◌++◌, [], drop, length, map}
use Rattle.machine.specs.Machine.{Running, after_rounds}
use Rattle.machine.specs.Untraced.{IsUntraced}
use Rattle.run_events.specs.Pcs.{pc_before}
use Rattle.run_events.proofs.locating.pcs_of_run.Given as goal

-- the machine is on its way from where the run starts, and the pcs so far are told
abbrev pub invariant-loop-done : goal.invariant-loop-done
invariant-loop-done g l =
    (l.start ≡ l.fn.start)
    × (l.done ≤ length l.events)
    × ((m : Running) → IsUntraced (after_rounds l.fn.start.rounds m) l.fn.start → IsUntraced (after_rounds l.machine.rounds m) l.machine)
    × ((m : Running) → IsUntraced (after_rounds l.fn.start.rounds m) l.fn.start → l.pcs.items ++ map (pc_before l.rounds m) (drop l.done l.events) ≡ [] ++ map (pc_before l.rounds m) l.events)

abbrev pub decreases-loop-done : goal.decreases-loop-done
decreases-loop-done g l = length l.events - l.done
