use Rattle.std.proofs.Common.{◌≡◌, ℕ, true}
use Rattle.pages.specs.Memory.{in_range}
use Rattle.trace.specs.Traced.{opening_at}
use Rattle.memory_order.specs.Checking.{IsLeft, source_of}
use Rattle.memory_order.proofs.checking.values.load_is_right.Given as goal

abbrev pub invariant-loop-k : goal.invariant-loop-k
invariant-loop-k l = (x : ℕ) → in_range l.start l.k x ≡ true → IsLeft l.events (opening_at l.trace.opening) l.order l.reader x (source_of l.order l.sources.items l.reader x)
