use Rattle.std.proofs.Common.{◌≡◌, ◌+◌, ◌*◌}
use Rattle.machine.specs.Machine.{Running}
use Rattle.machine.specs.Untraced.{IsAfter, IsUntraced}
use Rattle.hunter.specs.Finding.{Moves}
use Rattle.hunter.proofs.looking.go_back.Given as goal

-- so many turns are done, and after none of them it was as it was
abbrev pub invariant-loop-turn : goal.invariant-loop-turn
invariant-loop-turn g l =
    IsAfter (l.turn * l.rows) l.fn.machine l.machine
    × ((m : Running) → IsUntraced m l.fn.machine → Moves l.rows (l.turn + 1) m)
    × (l.machine.rounds ≡ l.fn.machine.rounds + l.turn * l.rows)
