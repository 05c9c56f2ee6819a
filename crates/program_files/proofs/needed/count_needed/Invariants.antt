use Rattle.std.proofs.Common.{◌≡◌, ◌+◌, ◌<◌, ℕ, false}
use Rattle.machine.specs.Machine.{Running, after_rounds}
use Rattle.machine.specs.Untraced.{IsUntraced}
use Rattle.program_files.specs.Needed.{have_stopped}
use Rattle.program_files.proofs.needed.count_needed.Given as goal

-- so many rounds are done, and a hart ran as each of them began
abbrev pub invariant-loop-done : goal.invariant-loop-done
invariant-loop-done g l =
    ((m : Running) → IsUntraced m l.fn.machine → IsUntraced (after_rounds l.done m) l.machine × ((k : ℕ) → k < l.done → have_stopped (after_rounds k m).state.harts ≡ false))
    × (l.machine.rounds ≡ l.fn.machine.rounds + l.done)
