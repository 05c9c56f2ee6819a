-- How a hunt stands as plans are added.
use Rattle.std.proofs.Common.{◌≡◌, ◌↔◌, ℕ, zero, suc, ◌+◌, ◌<◌, ◌≤◌, inl, inr, Bool, true, false, IsTrue, List, [], ◌∷◌, length, get_or, refl, sym, ◌∙◌, ap, subst, arith}
use Rattle.std.proofs.lemmas.Bool.{cases_lt}
use Rattle.plan_hunt.specs.Endings.{Ended}
use Rattle.plan_hunt.specs.Extents.{IsOver, IsSought, IsTableOf, IsTally, NoneSought, Stands, start_of}
use Rattle.plan_hunt.specs.Tables.{IsRow, IsTable}
use Rattle.plan_hunt.specs.declared.extent.Extent.{Extent}
use Rattle.plan_hunt.specs.declared.extent.Until.{Until}
use Rattle.plan_hunt.specs.declared.row.Row.{Row}

-- the row of the first plan's ending begins with that plan
begins : (ends : ℕ → Ended) (first n : ℕ) (x : Row) → IsRow ends first n x → x.ending ≡ ends first → x.first ≡ first
begins ends first n x h e = elim (cases_lt first x.first) [
  | inl l ↦ absurd (h.none_before first (omega arith) l (sym e))
  | inr m ↦ omega (arith, m, h.from)
]

-- the first row is that of the first plan
pub start_so : (ends : ℕ → Ended) (first n : ℕ) (rows : List Row) (e : Ended) → IsTable ends first n rows → e ≡ ends (first + n) → start_of rows e ≡ ends first
start_so ends first zero [] e t is = is ∙ ap ends (omega arith)
start_so ends first (suc n) [] e t is = let a = t.complete first (omega arith) (omega arith) in absurd (omega (arith, a.2))
start_so ends first n (r ∷ rows) e t is =
    let here : IsRow ends first n r = t.each 0 r (omega arith) in
    let a = t.complete first (omega arith) (omega (arith, here.from, here.below)) in
    let there : IsRow ends first n a.1 = subst (IsRow ends first n) a.3 (t.each a.0 a.1 a.2) in
    let at : a.1.first ≡ first = begins ends first n a.1 there a.4 in
    by_place a.0 a.1 a.2 a.3 a.4 at here
  where
    by_place : (k : ℕ) (x : Row) → k < length (r ∷ rows) → get_or (r ∷ rows) k x ≡ x → x.ending ≡ ends first → x.first ≡ first → IsRow ends first n r → r.ending ≡ ends first
    by_place zero x l p q at here = ap (λ (y : Row). y.ending) p ∙ q
    by_place (suc k) x l p q at here =
        let above : r.first < x.first = subst (λ (y : Row). r.first < y.first) p (t.rising 0 (suc k) x (omega arith) l) in
        absurd (omega (arith, above, at, here.from))

-- ---- one more plan

-- what is sought of the last plan, in the terms of the hunt
abbrev Answers : Bool → Until → (ℕ → Ended) → ℕ → ℕ → List Row → Ended → Type 0
Answers b until ends first n rows e = IsTrue b ↔ IsSought until (start_of rows e) e

not_true : false ≡ true → ⊥
not_true e = cc

none_more : (until : Until) (ends : ℕ → Ended) (first n : ℕ) → NoneSought until ends first n → (IsSought until (ends first) (ends (first + n)) → ⊥) → NoneSought until ends first (n + 1)
none_more until ends first n none not = λ i low high h. elim (cases_lt i (first + n)) [
  | inl l ↦ none i low l h
  | inr m ↦ not (subst (λ (k : ℕ). IsSought until (ends first) (ends k)) (omega (arith, m, high)) h)
]

pub stands_next : (b : Bool) (x : Extent) (ends : ℕ → Ended) (n : ℕ) (rows : List Row) (e : Ended) → IsTable ends x.first n rows → e ≡ ends (x.first + n) → Answers b x.until ends x.first n rows e →
    NoneSought x.until ends x.first n → Stands b x ends (n + 1)
stands_next true x ends n rows e t is answer none = inl (record {
  before = n;
  count = refl;
  none_before = none;
  last = subst (λ (s : Ended). IsSought x.until s (ends (x.first + n))) (start_so ends x.first n rows e t is) (subst (IsSought x.until (start_of rows e)) is (answer.0 refl));
})
stands_next false x ends n rows e t is answer none =
    none_more x.until ends x.first n none (λ h. not_true (answer.1 (subst (IsSought x.until (start_of rows e)) (sym is) (subst (λ (s : Ended). IsSought x.until s (ends (x.first + n))) (sym (start_so ends x.first n rows e t is)) h))))

-- ---- the end

pub over_so : (b : Bool) (x : Extent) (ends : ℕ → Ended) (n : ℕ) → (b ≡ false → n ≡ x.most) → Stands b x ends n → IsOver x ends n
over_so true x ends n all (inl h) = inl h
over_so true x ends n all (inr h) = inr (inl h)
over_so false x ends n all h = inr (inr (all refl, h))

pub ends_so : (b : Bool) (x : Extent) (ends : ℕ → Ended) (n : ℕ) (rows : List Row) → (b ≡ false → n ≡ x.most) → IsTally ends x b n rows → IsTableOf ends x n rows
ends_so b x ends n rows all t = record { table = t.table; few = t.few; over = over_so b x ends n all t.stands }

-- ---- a hunt that goes on, and one for which there is no more time

pub going : (b : Bool) (x : Extent) (ends : ℕ → Ended) (n : ℕ) → b ≡ false → Stands b x ends n → NoneSought x.until ends x.first n
going false x ends n e h = h
going true x ends n e h = absurd cc

pub out_of_time : (x : Extent) (ends : ℕ → Ended) (n : ℕ) (rows : List Row) (b : Bool) → b ≡ false → (x.is_timed ≡ true) × (1 ≤ n) → IsTally ends x b n rows → IsTally ends x true n rows
out_of_time x ends n rows b e h t = record {
  table = t.table;
  few = t.few;
  stands = inr (record { timed = h.0; some = h.1; none = going b x ends n e t.stands });
}
