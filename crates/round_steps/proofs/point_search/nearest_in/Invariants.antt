use Rattle.std.proofs.Common.{◌≡◌, ◌+◌, false}
use Rattle.machine.specs.Machine.{Running, after_rounds}
use Rattle.machine.specs.Untraced.{IsUntraced}
use Rattle.round_steps.specs.Points.{ends, nearest_point_of}
use Rattle.round_steps.proofs.point_search.nearest_in.Given as goal

abbrev pub invariant-loop-done : goal.invariant-loop-done
invariant-loop-done g l =
    (l.machine.rounds ≡ l.initial.machine.rounds + l.done)
    × ((m : Running) → IsUntraced m l.initial.machine → IsUntraced (after_rounds l.done m) l.machine)
    × (ends l.way l.found ≡ false)
    × ((m : Running) → IsUntraced m l.initial.machine → m.code ≡ l.code → l.found ≡ nearest_point_of l.way l.asked l.watches m l.done l.here)
