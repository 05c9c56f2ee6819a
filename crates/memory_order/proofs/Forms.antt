-- What the form of an access says of its bytes.
use Rattle.std.proofs.Common.{ℕ, ◌+◌, ◌^◌, ◌<◌, ◌≤◌, arith}
use Rattle.pages.specs.declared.access.Width.{Width}
use Rattle.pages.specs.declared.access.Width.TheVariants.{W1, W2, W4, W8}
use Rattle.pages.specs.Memory.{width_bytes}
use Rattle.round_schedule.specs.declared.access.Access.{Access}
use Rattle.round_schedule.specs.declared.access.Access.TheVariants.{Load, Store, LoadReserved, StoreConditional, Atomic, Fence}
use Rattle.round_schedule.specs.Accesses.{address_of, bytes_of}
use Rattle.hart_step.specs.Forms.{Formed}

at_most_eight : (w : Width) → width_bytes w ≤ 8
at_most_eight W1 = omega arith
at_most_eight W2 = omega arith
at_most_eight W4 = omega arith
at_most_eight W8 = omega arith

near : (a : ℕ) (w : Width) → a < 2 ^ 32 → a + width_bytes w < 2 ^ 64
near a w h = let b = at_most_eight w in omega (arith, b, h)

pub bytes_fit : (a : Access) → Formed (2 ^ 32) a → address_of a + bytes_of a < 2 ^ 64
bytes_fit (Load w p a r) h = near a w h.0.1
bytes_fit (Store w p a v) h = near a w h.0.1
bytes_fit (LoadReserved w o p a r) h = near a w h.1.1
bytes_fit (StoreConditional w o p a v) h = near a w h.1.1
bytes_fit (Atomic w o p a r v) h = near a w h.1.1
bytes_fit (Fence b c m p) h = omega arith
