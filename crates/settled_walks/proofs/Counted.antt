-- States with their times counted by the stores that stay.
use Rattle.std.proofs.Common.{◌≡◌, ℕ, suc, ◌+◌, ◌-◌, ◌<◌, ◌≤◌, ◌||◌, ◌⊎◌, ◌==◌, nat_le, Bool, true, false, if◌then◌else◌, List, [], ◌∷◌, ◌++◌, length, get_or, map, Option, None, Some, option_map, refl, sym, ap, ◌∙◌, subst, inl, inr, arith}
use Rattle.std.proofs.lemmas.Bool.{and_parts, cases_lt, eq-eqb, eqb-true, leb-true}
use Rattle.std.proofs.lemmas.List.{get_or-map, get_or_past, length-map}
use Rattle.pages.specs.Memory.{in_range, width_bytes}
use Rattle.round_schedule.specs.declared.span.Span.{Span}
use Rattle.run_bounds.specs.declared.touched.OwnByte.{OwnByte as KeptByte}
use Rattle.rule_checker.specs.declared.carried.Carried.{Carried}
use Rattle.all_endings.specs.Lowering.{CarriedAtMost, is_held}
use Rattle.all_endings.specs.StoreLists.{Stored}
use Rattle.hart_states.specs.States.{own_of, source_in}
use Rattle.private_bytes.specs.Ahead.{OutputTells, OwnAhead, ahead-both, ahead-none, tells-more, tells-nothing}
use Rattle.list_suffixes.specs.Staying.{carried_kept, kept_before, last_laid, place_before, place_kept, stays_at}
use Rattle.list_suffixes.specs.Staying.{own_kept as counted_kept}
use Rattle.settled_walks.proofs.Times.{before_kept, before_stays, kept_more, kept_same, place_laid, place_stays, place_zero}
use Rattle.run_places.specs.Spots.{is_among}
use Rattle.run_places.proofs.Paid.{or_left, or_right}
use Rattle.settled_walks.specs.Kept.{own_kept}

-- ---- numbers

-- with one time more
pub kept_next : (stays : List Bool) (t n : ℕ) (b : Bool) → n ≡ t + 1 → stays_at stays t ≡ b → kept_before stays n ≡ (if b then kept_before stays t + 1 else kept_before stays t)
kept_next stays t n true e s = ap (kept_before stays) (let q : n ≡ suc t = omega (arith, e) in q) ∙ (kept_more stays t s ∙ (let q : suc (kept_before stays t) ≡ kept_before stays t + 1 = omega arith in q))
kept_next stays t n false e s = ap (kept_before stays) (let q : n ≡ suc t = omega (arith, e) in q) ∙ kept_same stays t s

pub place_at : (stays : List Bool) (m : List Stored) (x p last : ℕ) → last ≡ last_laid stays m x (length stays) → p ≤ last → place_kept stays m x p ≡ 0
place_at stays m x p last e l = place_laid stays m x p (subst (λ (n : ℕ). p ≤ n) e l)

pub place_past : (stays : List Bool) (m : List Stored) (x p last : ℕ) → last ≡ last_laid stays m x (length stays) → last < p → place_kept stays m x p ≡ kept_before stays p
place_past stays m x p last e l = place_stays stays m x p (subst (λ (n : ℕ). n < p) e l)

-- ---- stores that were done

pub among_new : (old : List ℕ) (v j : ℕ) → v ≡ j → is_among (old ++ v ∷ []) j ≡ true
among_new [] v j e = or_left (v == j) false (eq-eqb v j e)
among_new (k ∷ old) v j e = or_right (k == j) (is_among (old ++ v ∷ []) j) (among_new old v j e)

pub among_last : (old : List ℕ) (v k : ℕ) → is_among (old ++ v ∷ []) k ≡ true → (is_among old k ≡ true) ⊎ (v ≡ k)
among_last [] v k e = by_test (v == k) refl e
  where
    by_test : (c : Bool) → (v == k) ≡ c → (c || false) ≡ true → (is_among [] k ≡ true) ⊎ (v ≡ k)
    by_test true is e = inr (eqb-true v k is)
    by_test false is e = absurd (cc)
among_last (u ∷ old) v k e = by_test (u == k) (among_last old v k) e
  where
    by_test : (c : Bool) → (is_among (old ++ v ∷ []) k ≡ true → (is_among old k ≡ true) ⊎ (v ≡ k)) → (c || is_among (old ++ v ∷ []) k) ≡ true → ((c || is_among old k) ≡ true) ⊎ (v ≡ k)
    by_test true before e = inl refl
    by_test false before e = before e

pub kept_at : (stays : List Bool) (v s j : ℕ) → v ≡ kept_before stays s → s ≡ place_before stays j → v ≡ j
kept_at stays v s j e f = e ∙ (ap (kept_before stays) f ∙ before_kept stays j)

pub stays_there : (stays : List Bool) (s j : ℕ) → s ≡ place_before stays j → stays_at stays s ≡ true
stays_there stays s j e = ap (stays_at stays) e ∙ before_stays stays j

-- ---- states

pub own_counted : (stays : List Bool) (m : List Stored) (x : ℕ) (o p : Option KeptByte) → o ≡ option_map (own_kept stays m x) p →
    OwnAhead (option_map own_of o) (option_map (counted_kept stays m x) (option_map own_of p))
own_counted stays m x o None e = subst (λ (u : Option KeptByte). OwnAhead (option_map own_of u) None) (sym e) ahead-none
own_counted stays m x o (Some p) e =
    subst (λ (u : Option KeptByte). OwnAhead (option_map own_of u) (Some (counted_kept stays m x (own_of p)))) (sym e)
    (ahead-both (own_of (own_kept stays m x p)) (counted_kept stays m x (own_of p)) refl (λ k is. is) refl (omega arith))

held_at : (s : Span) (x : ℕ) → in_range s.address (width_bytes s.width) x ≡ true → s.address + (x - s.address) ≡ x
held_at s x e = let l = leb-true s.address x (and_parts (nat_le s.address x) _ e).0 in omega (arith, l)

pub sources_counted : (stays : List Bool) (m : List Stored) (held : Option Span) (old new : List ℕ) →
    ((s : Span) (k : ℕ) → held ≡ Some s → place_kept stays m (s.address + k) (get_or old k 0) ≤ get_or new k 0) → (x : ℕ) → is_held held x ≡ true →
    place_kept stays m x (source_in held old x) ≤ source_in held new x
sources_counted stays m None old new each x e = absurd (cc)
sources_counted stays m (Some s) old new each x e =
    subst (λ (y : ℕ). place_kept stays m y (get_or old (x - s.address) 0) ≤ get_or new (x - s.address) 0) (held_at s x e) (each s (x - s.address) refl)

pub output_self : (os : List (Option ℕ)) → OutputTells os os
output_self [] = tells-nothing
output_self (o ∷ os) = tells-more o o os os (λ n e. e) (output_self os)

pub carried_counted : (stays : List Bool) (a b : Carried) → length a.registers ≡ 32 → length b.registers ≡ 32 → ((r : ℕ) → r < 32 → get_or a.registers r 0 ≡ kept_before stays (get_or b.registers r 0)) →
    a.steered ≡ kept_before stays b.steered → a.addressed ≡ kept_before stays b.addressed → CarriedAtMost a (carried_kept stays b)
carried_counted stays a b small size each steered addressed = record {
  small = small;
  size = length-map b.registers (kept_before stays) ∙ size;
  registers = λ r l. by_zero (r == 0) (get_or a.registers r 0) (get_or (map (kept_before stays) b.registers) r 0)
      (each r l ∙ sym (get_or-map (kept_before stays) b.registers r 0 0 (omega (arith, l, size))));
  steered = omega (arith, steered);
  addressed = omega (arith, addressed);
}
  where
    by_zero : (c : Bool) (n k : ℕ) → n ≡ k → (if c then 0 else n) ≤ (if c then 0 else k)
    by_zero true n k e = omega arith
    by_zero false n k e = omega (arith, e)

-- where each of the eight is as it was asked, each one is
pub sources_all : (stays : List Bool) (m : List Stored) (a i : ℕ) (old new : List ℕ) → length old ≤ i →
    ((k : ℕ) → k < i → place_kept stays m (a + k) (get_or old k 0) ≤ get_or new k 0) → (k : ℕ) → place_kept stays m (a + k) (get_or old k 0) ≤ get_or new k 0
sources_all stays m a i old new size each k = elim (cases_lt k i) [
  | inl small ↦ each k small
  | inr large ↦
      let z : place_kept stays m (a + k) (get_or old k 0) ≡ 0 = ap (place_kept stays m (a + k)) (get_or_past old k 0 (omega (arith, size, large))) ∙ place_zero stays m (a + k) in
      omega (arith, z)
]
