-- How many plans lead to an ending.
use Rattle.std.proofs.Common.{◌≡◌, ◌≢◌, ℕ, zero, suc, ◌+◌, ◌<◌, ◌≤◌, inl, inr, refl, sym, ◌∙◌, ap, subst, arith}
use Rattle.plan_hunt.specs.Endings.{Ended}
use Rattle.plan_hunt.specs.Tables.{IsCount}

pub count_unique : (ends : ℕ → Ended) (first n : ℕ) (e : Ended) (j k : ℕ) → IsCount ends first e n j → IsCount ends first e n k → j ≡ k
count_unique ends first zero e j k a b = a ∙ sym b
count_unique ends first (suc n) e j k (inl a) (inl b) = a.1.1 ∙ ap suc (count_unique ends first n e a.1.0 b.1.0 a.1.2 b.1.2) ∙ sym b.1.1
count_unique ends first (suc n) e j k (inl a) (inr b) = absurd (b.0 a.0)
count_unique ends first (suc n) e j k (inr a) (inl b) = absurd (a.0 b.0)
count_unique ends first (suc n) e j k (inr a) (inr b) = count_unique ends first n e j k a.1 b.1

pub count_within : (ends : ℕ → Ended) (first n : ℕ) (e : Ended) (k : ℕ) → IsCount ends first e n k → k ≤ n
count_within ends first zero e k a = omega (arith, a)
count_within ends first (suc n) e k (inl a) = omega (arith, a.1.1, count_within ends first n e a.1.0 a.1.2)
count_within ends first (suc n) e k (inr a) = omega (arith, count_within ends first n e k a.1)

pub count_none : (ends : ℕ → Ended) (first n : ℕ) (e : Ended) → ((i : ℕ) → first ≤ i → i < first + n → ends i ≢ e) → IsCount ends first e n 0
count_none ends first zero e h = refl
count_none ends first (suc n) e h = inr (h (first + n) (omega arith) (omega arith), count_none ends first n e (λ i l m. h i l (omega (arith, m))))

pub count_both : (ends : ℕ → Ended) (first n m : ℕ) (e : Ended) (j k : ℕ) → IsCount ends first e n j → IsCount ends (first + n) e m k → IsCount ends first e (n + m) (j + k)
count_both ends first n zero e j k a b = subst (λ (x : ℕ). IsCount ends first e x (j + k)) (sum_zero n) (subst (λ (x : ℕ). IsCount ends first e n x) (count_zero j k b) a)
  where
    sum_zero : (i : ℕ) → i ≡ i + 0
    sum_zero i = omega arith

    count_zero : (i l : ℕ) → l ≡ 0 → i ≡ i + l
    count_zero i l q = omega (arith, q)
count_both ends first n (suc m) e j k a (inl b) =
    subst (λ (x : ℕ). IsCount ends first e x (j + k)) (sum_suc n m)
    (inl (subst (λ (i : ℕ). ends i ≡ e) (regroup first n m) b.0, (j + b.1.0, count_suc j k b.1.0 b.1.1, count_both ends first n m e j b.1.0 a b.1.2)))
  where
    sum_suc : (i l : ℕ) → suc (i + l) ≡ i + suc l
    sum_suc i l = omega arith

    regroup : (i l o : ℕ) → (i + l) + o ≡ i + (l + o)
    regroup i l o = omega arith

    count_suc : (i l o : ℕ) → l ≡ suc o → i + l ≡ suc (i + o)
    count_suc i l o q = omega (arith, q)
count_both ends first n (suc m) e j k a (inr b) =
    subst (λ (x : ℕ). IsCount ends first e x (j + k)) (sum_suc n m)
    (inr (subst (λ (i : ℕ). ends i ≢ e) (regroup first n m) b.0, count_both ends first n m e j k a b.1))
  where
    sum_suc : (i l : ℕ) → suc (i + l) ≡ i + suc l
    sum_suc i l = omega arith

    regroup : (i l o : ℕ) → (i + l) + o ≡ i + (l + o)
    regroup i l o = omega arith
