use Rattle.std.proofs.Common.{◌≡◌, ◌<◌, ℕ, true}
use Rattle.round_schedule.specs.Positions.{reads_at}
use Rattle.trace.specs.Traced.{opening_at}
use Rattle.memory_order.specs.Checking.{IsLeft, source_of}
use Rattle.memory_order.proofs.checking.values.loads_are_right.Given as goal

abbrev pub invariant-loop-i : goal.invariant-loop-i
invariant-loop-i l = (r : ℕ) → r < l.i → (x : ℕ) → reads_at l.events r x ≡ true → IsLeft l.events (opening_at l.trace.opening) l.order r x (source_of l.order l.sources.items r x)
