-- Where an index stands in an order, looked for from the front.
use Rattle.std.proofs.Common.{◌≡◌, ℕ, suc, ◌+◌, ◌<◌, ◌==◌, List, drop, length, get_or, ap, arith, ◌∙◌}
use Rattle.std.proofs.lemmas.Bool.{cond-true, eq-eqb}
use Rattle.std.proofs.lemmas.List.{drop_more}
use Rattle.memory_order.specs.Orders.{order_position}

pub position_found : (g : List ℕ) (s p n : ℕ) → p < length g → n ≡ p + order_position (drop p g) s → get_or g p 0 ≡ s → n ≡ p
position_found g s p n l e here =
    e
    ∙ ap (λ (xs : List ℕ). p + order_position xs s) (drop_more g p 0 l)
    ∙ ap (λ (m : ℕ). p + m) (cond-true (get_or g p 0 == s) 0 (suc (order_position (drop (p + 1) g) s)) (eq-eqb (get_or g p 0) s here))
    ∙ zero
  where
    zero : p + 0 ≡ p
    zero = omega arith
