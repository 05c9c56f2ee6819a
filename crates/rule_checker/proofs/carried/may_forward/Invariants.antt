use Rattle.std.proofs.Common.{◌≡◌, ℕ, true}
use Rattle.pages.specs.Memory.{in_range}
use Rattle.memory_order.specs.Checking.{source_of}
use Rattle.rule_checker.specs.CarriedBounds.{MayForward}
use Rattle.rule_checker.proofs.carried.may_forward.Given as goal

abbrev pub invariant-loop-k : goal.invariant-loop-k
invariant-loop-k l = (x : ℕ) → in_range l.start l.k x ≡ true → MayForward l.events l.order l.operands l.i l.position (source_of l.order l.sources.items l.i x)
