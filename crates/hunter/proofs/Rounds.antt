-- Rounds after rounds of a machine that keeps no trace.
use Rattle.std.proofs.Common.{◌≡◌, ◌⊎◌, inl, inr, ℕ, zero, suc, ◌+◌, ◌-◌, ◌*◌, ◌/◌, ◌<◌, ◌≤◌, nat_lt, false, MatchOption, Option, Some, None, subst, arith}
use Rattle.std.proofs.lemmas.Bool.{cases_lt}
use Rattle.std.proofs.lemmas.Bool.Decides.{nat_tests}
use Rattle.std.proofs.Math.Nat.{div-mul-le_self, mul-le-mul_right}
use Rattle.machine.specs.Machine.{Running, after_rounds}
use Rattle.machine.specs.Untraced.{IsAfter, IsUntraced, Untraced}
use Rattle.machine.proofs.Repeated.{more_rounds, no_rounds}

pub none_after : (u : Untraced) → IsAfter 0 u u
none_after u = λ m is. subst (λ (x : Running). IsUntraced x u) (no_rounds m) is

pub then_after : (j k : ℕ) (u v w : Untraced) → IsAfter j u v → IsAfter k v w → IsAfter (j + k) u w
then_after j k u v w a b = λ m is. subst (λ (x : Running). IsUntraced x w) (more_rounds j k m) (b (after_rounds j m) (a m is))

pub next_turn : (t rows : ℕ) → t * rows + rows ≡ (t + 1) * rows
next_turn t rows = omega arith

pub at_none : {X : Type 0} (o : Option X) (A : Type 0) (B : X → Type 0) → o ≡ None → MatchOption o A B → A
at_none None A B e h = h
at_none (Some x) A B e h = cc

pub at_some : {X : Type 0} (o : Option X) (x : X) (A : Type 0) (B : X → Type 0) → o ≡ Some x → MatchOption o A B → B x
at_some {X = X} o x A B e h = subst (λ (y : Option X). MatchOption y A B) e h

-- ---- numbers

pub few_turns : (k rows n : ℕ) → k * rows ≤ n → n < rows → k < 1
few_turns zero rows n l m = omega arith
few_turns (suc k) rows n l m = absurd (omega (arith, l, m, mul-le-mul_right {m = 1} {n = suc k} rows (omega arith)))

pub not_less : (a b : ℕ) → b ≤ a → nat_lt a b ≡ false
not_less a b l = grind (arith, nat_tests)

pub at_most : {X : Type 0} (done half rounds : ℕ) → done < rounds → (done ≤ half) ⊎ ((done ≡ rounds) × X) → done ≤ half
at_most done half rounds l (inl m) = m
at_most done half rounds l (inr e) = absurd (omega (arith, l, e.0))

-- what is looked at after half of the rounds, or before, ends with them
pub record Within (rounds i p : ℕ) : Type 0 where
  pub early : i ≤ rounds / 2
  pub few : p ≤ rounds - rounds / 2
  pub all : i + p ≤ rounds

pub within : (rounds done part gone p : ℕ) → done < rounds → done ≤ rounds / 2 → gone ≤ part → p ≤ part - gone →
    (done < rounds / 2 → (1 ≤ part) × (done + part ≤ rounds / 2)) → (rounds / 2 ≤ done → done + part ≡ rounds) → (rounds / 2 ≤ done → gone ≡ 0) → Within rounds (done + gone) p
within rounds done part gone p l m g q early last none = elim (cases_lt done (rounds / 2)) [
  | inl a ↦ let e = early a in let half = div-mul-le_self rounds 2 in record {
    early = omega (arith, e.1, g);
    few = omega (arith, e.1, g, q, half);
    all = omega (arith, e.1, g, q, half);
  }
  | inr b ↦ let e = last b in let z = none b in record {
    early = omega (arith, m, z);
    few = omega (arith, e, z, q, b);
    all = omega (arith, e, z, q);
  }
]
