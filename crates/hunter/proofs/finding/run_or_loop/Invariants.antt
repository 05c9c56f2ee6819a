use Rattle.std.proofs.Common.{◌≡◌, ◌⊎◌, ◌+◌, ◌-◌, ◌≤◌, false}
use Rattle.machine.specs.Machine.{Running, after_rounds}
use Rattle.machine.specs.Untraced.{IsAfter, IsUntraced}
use Rattle.hunter.specs.Finding.{is_round}
use Rattle.hunter.proofs.finding.run_or_loop.Given as goal

-- so many rounds are done: at most half of them, or all, and then the run doesn't go round
abbrev pub invariant-loop-done : goal.invariant-loop-done
invariant-loop-done g l =
    IsAfter l.done l.fn.machine l.machine
    × (l.machine.rounds ≡ l.fn.machine.rounds + l.done)
    × ((l.half ≡ 0) ⊎ (1 ≤ l.done))
    × ((l.done ≤ l.half) ⊎ ((l.done ≡ l.rounds) × ((m : Running) → IsUntraced m l.fn.machine → is_round l.rounds m ≡ false)))

abbrev pub decreases-loop-done : goal.decreases-loop-done
decreases-loop-done g l = l.rounds - l.done
