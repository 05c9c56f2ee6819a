use Rattle.std.proofs.Common.{ℕ, ◌<◌, ◌≤◌, get_or}
use Rattle.run_places.proofs.bounds.carried_at_most.Given as goal

abbrev pub invariant-loop-register : goal.invariant-loop-register
invariant-loop-register l = (k : ℕ) → k < l.register → get_or l.a.registers k 0 ≤ get_or l.b.registers k 0
