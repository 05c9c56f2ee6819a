use Rattle.std.proofs.Common.{◌≡◌, ◌++◌, map, take}
use Rattle.machine.specs.Machine.{Running}
use Rattle.machine.specs.Untraced.{IsUntraced}
use Rattle.run_events.specs.Pcs.{pc_in_next}
use Rattle.run_events.proofs.turns.add_each.Given as goal

-- the machine stays, and the pcs so far are told
abbrev pub invariant-loop-number : goal.invariant-loop-number
invariant-loop-number g l =
    (l.machine ≡ l.fn.machine) × ((m : Running) → IsUntraced m l.fn.machine → l.pcs.items ≡ l.fn.pcs.items ++ map (pc_in_next m) (take l.number l.events))
