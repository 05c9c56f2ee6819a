-- What the rounds of all harts come to together.
use Rattle.std.proofs.Common.{◌≡◌, ℕ, zero, suc, ◌+◌, ◌*◌, ◌^◌, ◌<◌, ◌≤◌, Bool, true, false, cond, List, [], ◌∷◌, drop, get_or, length, sym, ap, ◌∙◌, subst, arith}
use Rattle.std.proofs.Math.Nat.{pow-le-pow_right, pow-succ', suc-mul, zero-mul}
use Rattle.std.proofs.lemmas.List.{drop_more}
use Rattle.hart_rounds.specs.declared.hart_end.HartEnd.{HartEnd}
use Rattle.guest_rounds.specs.declared.tally.Tally.{Tally}
use Rattle.guest_rounds.specs.HartEnds.{count_accesses, count_true, mask_of, turns_of, waits_of}

-- it is their tally
pub record IsTally (os : List HartEnd) (t : Tally) : Type 0 where
  pub waiting : t.waiting ≡ mask_of (waits_of os)
  pub below : t.waiting < 2 ^ length os
  pub waited : t.waited ≡ count_true (waits_of os)
  pub most : t.waited ≤ length os
  pub accesses : t.accesses ≡ count_accesses os
  pub logs : t.logs ≤ length os

pub bit_most : (b : Bool) → cond b 1 0 ≤ 1
bit_most true = omega arith
bit_most false = omega arith

next_power : (n : ℕ) → 2 ^ suc n ≡ 2 * 2 ^ n
next_power n = pow-succ' 2 n

pub tally_none : (t : Tally) → t.waiting ≡ 0 → t.waited ≡ 0 → t.accesses ≡ 0 → t.logs ≡ 0 → IsTally [] t
tally_none t e f g h = record { waiting = e; below = omega (arith, e); waited = f; most = omega (arith, f); accesses = g; logs = omega (arith, h) }

pub tally_more : (o : HartEnd) (os : List HartEnd) (t u : Tally) → u.waiting ≡ 2 * t.waiting + cond o.waits 1 0 → u.waited ≡ t.waited + cond o.waits 1 0 →
    u.accesses ≡ t.accesses + o.accesses → u.logs ≤ t.logs + 1 → IsTally os t → IsTally (o ∷ os) u
tally_more o os t u e f g h k = record {
  waiting = e ∙ ap (λ (n : ℕ). 2 * n + cond o.waits 1 0) k.waiting;
  below = omega (arith, e, k.below, bit_most o.waits, next_power (length os));
  waited = f ∙ ap (λ (n : ℕ). n + cond o.waits 1 0) k.waited ∙ omega arith;
  most = omega (arith, f, k.most, bit_most o.waits);
  accesses = g ∙ ap (λ (n : ℕ). n + o.accesses) k.accesses ∙ omega arith;
  logs = omega (arith, h, k.logs);
}

-- from a place on: that one and the others
pub tally_from : (os : List HartEnd) (i j : ℕ) (o : HartEnd) (u : Tally) → i < length os → j ≡ i + 1 → o ≡ get_or os i o → IsTally (o ∷ drop j os) u → IsTally (drop i os) u
tally_from os i j o u low next here t =
    let first : drop i os ≡ o ∷ drop (i + 1) os = drop_more os i o low ∙ ap (λ (x : HartEnd). x ∷ drop (i + 1) os) (sym here) in
    subst (λ (xs : List HartEnd). IsTally xs u) (sym first) (subst (λ (k : ℕ). IsTally (o ∷ drop k os) u) next t)

pub below_double : (n : ℕ) (os : List HartEnd) (t : Tally) → length os ≡ n → n < 64 → IsTally os t → 2 * t.waiting + 1 < 2 ^ 64
below_double n os t many few k =
    let most : 2 ^ n ≤ 2 ^ 63 = pow-le-pow_right (omega arith) {i = n} {j = 63} (omega (arith, few)) in
    let below : t.waiting < 2 ^ n = subst (λ (m : ℕ). t.waiting < 2 ^ m) many k.below in
    omega (arith, most, below)

pub accesses_from : (os : List HartEnd) (i : ℕ) → count_accesses (drop i os) ≤ count_accesses os
accesses_from os zero = omega arith
accesses_from [] (suc i) = omega arith
accesses_from (o ∷ os) (suc i) = omega (arith, accesses_from os i)

pub accesses_at : (os : List HartEnd) (i j : ℕ) (o : HartEnd) → i < length os → j ≡ i + 1 → o ≡ get_or os i o → o.accesses + count_accesses (drop j os) ≤ count_accesses os
accesses_at os i j o low next here =
    let first : drop i os ≡ o ∷ drop (i + 1) os = drop_more os i o low ∙ ap (λ (x : HartEnd). x ∷ drop (i + 1) os) (sym here) in
    omega (arith, accesses_from os i, ap count_accesses first, ap (λ (k : ℕ). count_accesses (drop k os)) next)

-- as many turns as harts wait
pub turns_by_count : (budget : ℕ) (bs : List Bool) → turns_of budget bs ≡ count_true bs * budget
turns_by_count budget [] = sym (zero-mul budget)
turns_by_count budget (true ∷ bs) =
    ap (λ (n : ℕ). budget + n) (turns_by_count budget bs) ∙ omega arith ∙ sym (suc-mul (count_true bs) budget) ∙ ap (λ (n : ℕ). n * budget) (omega arith)
turns_by_count budget (false ∷ bs) = omega (arith, turns_by_count budget bs)

pub count_most : (bs : List Bool) → count_true bs ≤ length bs
count_most [] = omega arith
count_most (true ∷ bs) = omega (arith, count_most bs)
count_most (false ∷ bs) = omega (arith, count_most bs)
