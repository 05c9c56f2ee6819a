use Rattle.std.proofs.Common.{◌≡◌, rules, subst}
use Rattle.std.specs.List.Sorted.{IsPermutation, IsStableByKey}
use Rattle.std.specs.Ordering.{nat_cmp}
use Rattle.std.proofs.lemmas.Fn.{always_returns_same}
use Rattle.std.proofs.lemmas.List.Sorted.{IsNonDecreasingBy-from_sort_by_key}
use Rattle.round_schedule.specs.Positions.{event}
use Rattle.memory_order.specs.RoundOrder.{rank}
use Rattle.memory_order.proofs.Sorting.{by_stable_sort}
use Rattle.memory_order.proofs.order.by_rounds.Goals as goal

pub returns : goal.returns
returns c =
    let done = c.in_ok-sort_by_key.ensures in
    by_stable_sort c.args.events.now _ (subst (λ xs. IsPermutation xs c.sort_by_key.new.self.items) c.in_ok-order.ensures done.permutation)
    (IsNonDecreasingBy-from_sort_by_key (λ i. rank (event c.args.events.now i)) _ done.sorted (λ a r q k. search rules))
    (subst (λ xs. IsStableByKey (λ i. rank (event c.args.events.now i)) nat_cmp xs c.sort_by_key.new.self.items) c.in_ok-order.ensures
    (done.stable (λ i. rank (event c.args.events.now i)) (always_returns_same _ (λ a r. r ≡ rank (event c.args.events.now a.0.now)) _ (λ a r q k. search rules))))
