use Rattle.std.proofs.Common.{◌≡◌, ℕ, length, get_or}
use Rattle.memory_order.specs.Operations.{is_lr_or_sc}
use Rattle.memory_order.specs.Checking.{AreReserved, Earlier, IsMax}
use Rattle.memory_order.proofs.checking.pairs.last_reserved.Given as goal

abbrev pub invariant-loop-i : goal.invariant-loop-i
invariant-loop-i l = record {
  harts : length l.last.items ≡ 256;
  reserved : AreReserved l.events l.i l.reserved.items;
  last : (h : ℕ) → IsMax (λ i. i) (Earlier (λ e. is_lr_or_sc e.access) l.events h l.i) (get_or l.last.items h 0);
}
