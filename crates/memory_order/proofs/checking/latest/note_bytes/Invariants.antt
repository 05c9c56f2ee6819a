use Rattle.std.proofs.Common.{◌≡◌, ℕ, if◌then◌else◌}
use Rattle.pages.specs.Memory.{in_range}
use Rattle.memory_order.specs.CheckingAtomic.{after_store, latest_of}
use Rattle.memory_order.proofs.checking.latest.note_bytes.Given as goal

abbrev pub invariant-loop-k : goal.invariant-loop-k
invariant-loop-k l = (x : ℕ) → latest_of l.latest x ≡ (if in_range l.address l.k x then after_store (latest_of l.initial.latest x) l.hart l.next else latest_of l.initial.latest x)
