use Rattle.std.proofs.Common.{◌≡◌, ℕ, rules, slice_index_or, subst}
use Rattle.std.specs.List.Sorted.{IsPermutation, IsStableByKey}
use Rattle.std.specs.Ordering.{nat_cmp}
use Rattle.std.proofs.lemmas.Fn.{always_returns_same}
use Rattle.std.proofs.lemmas.List.Sorted.{IsNonDecreasingBy-from_sort_by_key}
use Rattle.execution_moments.proofs.Sorting.{by_stable_sort}
use Rattle.execution_moments.proofs.sequence.sequence_of.Goals as goal

pub returns : goal.returns
returns c =
    let done = c.in_ok-sort_by_key.ensures in
    let time : ℕ → ℕ = λ k. slice_index_or c.args.times.now k c.args.end in
    by_stable_sort time c.args.count _ (subst (λ xs. IsPermutation xs c.sort_by_key.new.self.items) c.in_ok-numbers.ensures done.permutation)
    (IsNonDecreasingBy-from_sort_by_key time _ done.sorted (λ a r q k. search rules))
    (subst (λ xs. IsStableByKey time nat_cmp xs c.sort_by_key.new.self.items) c.in_ok-numbers.ensures
    (done.stable time (always_returns_same _ (λ a r. r ≡ time a.0.now) _ (λ a r q k. search rules))))
