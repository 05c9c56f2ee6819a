use Rattle.std.proofs.Common.{◌≡◌, ◌≤◌, ℕ, true}
use Rattle.pages.specs.Memory.{in_range}
use Rattle.memory_order.specs.Checking.{bound}
use Rattle.memory_order.proofs.checking.bounds.are_at_most.Given as goal

abbrev pub invariant-loop-k : goal.invariant-loop-k
invariant-loop-k l = (x : ℕ) → in_range l.address l.k x ≡ true → bound l.bounds l.owner x ≤ l.limit
