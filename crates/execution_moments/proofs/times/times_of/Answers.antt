use Rattle.std.proofs.Common.{◌≡◌, ℕ, List, ap, arith, length, slice_index, subst, ◌∙◌}
use Rattle.memory_order.specs.Orders.{order_position}
use Rattle.execution_moments.specs.Times.{AreTimesBy}
use Rattle.execution_moments.proofs.Rising.{at_some, times_same}
use Rattle.execution_moments.proofs.times.times_of.Goals as goal

pub returns-in_ok-times-in-Some : goal.returns-in_ok-times-in-Some
returns-in_ok-times-in-Some c =
    let t = c.args.events.now in
    let g = c.args.order.now.0.items in
    let v = c.in_ok-times-in-Some.times.items in
    let rank = at_some c.in_ok-positions.field-0 _ _ c.in-Some.positions c.in-Some.is c.in_ok-positions.ensures in
    let end_is : c.len.result ≡ length g = omega (arith, c.len.ensures, c.args.order.now.0.ok.0) in
    subst (λ (end : ℕ). AreTimesBy t (order_position g) end v) end_is
    (times_same t (λ i. slice_index c.deref-in-Some.result.now i) (order_position g) c.len.result v
    (λ i l. ap (λ (xs : List ℕ). slice_index xs i) c.deref-in-Some.ensures.value ∙ rank.1.1 i l ∙ ap (λ (o : List ℕ). order_position o i) c.deref.ensures.value)
    c.in_ok-times-in-Some.ensures)
