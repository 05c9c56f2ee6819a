use Rattle.std.proofs.Common.{ℕ, ◌<◌, ◌≤◌, get_or}
use Rattle.settled_walks.proofs.within.carried_within.Given as goal

abbrev pub invariant-loop-register : goal.invariant-loop-register
invariant-loop-register l = (k : ℕ) → 0 < k → k < l.register → get_or l.carried.registers k 0 ≤ l.time
