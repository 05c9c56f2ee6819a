use Rattle.std.proofs.Common.{◌≡◌, ℕ, true}
use Rattle.pages.specs.Memory.{in_range}
use Rattle.memory_order.specs.Checking.{bound, source_of}
use Rattle.rule_checker.specs.Bytes.{MayLoadByte}
use Rattle.rule_checker.proofs.coherent.may_load.Given as goal

abbrev pub invariant-loop-k : goal.invariant-loop-k
invariant-loop-k l = (x : ℕ) → in_range l.start l.k x ≡ true → MayLoadByte l.events l.order (bound l.seen l.hart x) l.position (source_of l.order l.sources.items l.i x)
