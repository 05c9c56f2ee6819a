use Rattle.std.proofs.Common.{ℕ, List, subst}
use Rattle.store_buffer.specs.Covered.{Rising}
use Rattle.store_buffer.proofs.LineOrder.{rising_lines}
use Rattle.store_buffer.proofs.store_buffer.StoreBuffer.bytes_rise.Goals as goal

pub returns : goal.returns
returns c = subst (λ (es : List (ℕ × ℕ)). Rising 0 es) c.self.view_is (rising_lines 0 c.self.inside.lines c.self.invariant.rising)
