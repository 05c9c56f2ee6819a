use Rattle.std.proofs.Common.{◌≡◌, ◌≤◌, ℕ, true}
use Rattle.pages.specs.Memory.{in_range}
use Rattle.memory_order.specs.Checking.{source_at}
use Rattle.memory_order.specs.CheckingAtomic.{latest_of, others_of}
use Rattle.memory_order.proofs.checking.atomic.are_undisturbed.Given as goal

abbrev pub invariant-loop-k : goal.invariant-loop-k
invariant-loop-k l = (x : ℕ) → in_range l.start l.k x ≡ true → (others_of (latest_of l.latest x) l.hart ≤ source_at l.sources.items l.reader x) × (source_at l.sources.items l.reader x ≤ l.p)
