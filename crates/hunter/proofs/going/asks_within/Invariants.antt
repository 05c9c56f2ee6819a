use Rattle.std.proofs.Common.{◌≡◌, ◌+◌, false}
use Rattle.machine.specs.Machine.{Running, after_rounds}
use Rattle.machine.specs.Untraced.{IsUntraced}
use Rattle.hunter.specs.Finding.{asks_within}
use Rattle.hunter.proofs.going.asks_within.Given as goal

-- so many rounds are done, and no hart asked in them
abbrev pub invariant-loop-round : goal.invariant-loop-round
invariant-loop-round g l =
    ((m : Running) → IsUntraced m l.fn.machine → IsUntraced (after_rounds l._round m) l.machine × (asks_within l._round m ≡ false))
    × (l.machine.rounds ≡ l.fn.machine.rounds + l._round)
