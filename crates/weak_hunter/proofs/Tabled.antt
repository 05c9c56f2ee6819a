-- The table of one more ending.
use Rattle.std.proofs.Common.{◌≡◌, ◌↔◌, IsTrue, ℕ, zero, suc, ◌+◌, ◌^◌, ◌<◌, ◌≤◌, nat_lt, Bool, true, false, if◌then◌else◌, inl, inr, List, [], ◌∷◌, ◌++◌, All, length, get_or, take, refl, sym, ◌∙◌, ap, subst, arith}
use Rattle.std.specs.Bool.{OnTrue}
use Rattle.std.specs.List.{Any}
use Rattle.std.proofs.lemmas.List.{take_more}
use Rattle.std.proofs.lemmas.List.Elements.{All-push}
use Rattle.std.proofs.lemmas.Bool.Decides.{nat_tests}
use Rattle.plan_hunt.specs.Adding.{row}
use Rattle.plan_hunt.specs.Endings.{Ended, ended}
use Rattle.plan_hunt.specs.Joining.{JoinIsTable}
use Rattle.plan_hunt.specs.Tables.{IsCount, IsRow, IsTable}
use Rattle.plan_hunt.specs.declared.row.Row.{Row}
use Rattle.plan_hunt.specs.Extents.{IsSought, NoneSought, start_of}
use Rattle.plan_hunt.specs.declared.extent.Extent.{Extent}
use Rattle.plan_hunt.specs.declared.extent.Until.{Until}
use Rattle.plan_hunt.proofs.Extents.{ends_so, going, stands_next}
use Rattle.weak_hunter.specs.WeakHunts.{IsSomeTable, IsSomeTally}

-- the same endings at the numbers of a table
Agree : (ℕ → Ended) → (ℕ → Ended) → ℕ → ℕ → Type 0
Agree f g first n = (i : ℕ) → first ≤ i → i < first + n → f i ≡ g i

fewer : (f g : ℕ → Ended) (first n : ℕ) → Agree f g first (suc n) → Agree f g first n
unfolding Agree
fewer f g first n h i low high = h i low (omega (arith, high))

last_agrees : (f g : ℕ → Ended) (first n : ℕ) → Agree f g first (suc n) → f (first + n) ≡ g (first + n)
unfolding Agree
last_agrees f g first n h = h (first + n) (omega arith) (omega arith)

count_by : (f g : ℕ → Ended) (first : ℕ) (e : Ended) (n k : ℕ) → Agree f g first n → IsCount f first e n k → IsCount g first e n k
count_by f g first e zero k h c = c
count_by f g first e (suc n) k h (inl c) = inl (sym (last_agrees f g first n h) ∙ c.0, (c.1.0, c.1.1, count_by f g first e n c.1.0 (fewer f g first n h) c.1.2))
count_by f g first e (suc n) k h (inr c) = inr (λ q. c.0 (last_agrees f g first n h ∙ q), count_by f g first e n k (fewer f g first n h) c.1)

row_by : (f g : ℕ → Ended) (first n : ℕ) (r : Row) → Agree f g first n → IsRow f first n r → IsRow g first n r
unfolding Agree
row_by f g first n r h t = record {
  from = t.from;
  below = t.below;
  ending = t.ending ∙ h r.first t.from t.below;
  none_before = λ i low high q. t.none_before i low high (h i low (omega (arith, high, t.below)) ∙ q);
  plans = count_by f g first r.ending n r.plans h t.plans;
}

table_by : (f g : ℕ → Ended) (first n : ℕ) (rows : List Row) → Agree f g first n → IsTable f first n rows → IsTable g first n rows
unfolding Agree
table_by f g first n rows h t = record {
  each = λ k d l. row_by f g first n (get_or rows k d) h (t.each k d l);
  complete = λ i low high. subst (λ (e : Ended). Any (λ (r : Row). r.ending ≡ e) rows) (h i low high) (t.complete i low high);
  rising = t.rising;
}

none_by : (until : Until) (f g : ℕ → Ended) (first n : ℕ) → Agree f g first n → NoneSought until f first n → NoneSought until g first n
unfolding Agree
none_by until f g first n h none i low high sought =
    none i low high (subst (λ (e : Ended). IsSought until e (f i)) (sym (h first (omega arith) (omega (arith, low, high))))
    (subst (IsSought until (g first)) (sym (h i low high)) sought))

-- ---- tables of no ending and of one

pub no_endings : (x : Extent) (rows : List Row) → rows ≡ [] → IsSomeTally x false 0 rows
no_endings x rows none = subst (λ (rs : List Row). IsSomeTally x false 0 rs) (sym none) (record {
  ends = λ _. ended [] [] [];
  tally = record {
    table = record {
      each = λ k d l. absurd (omega (arith, l));
      complete = λ i low high. absurd (omega (arith, low, high));
      rising = λ i j d l m. absurd (omega (arith, m));
    };
    few = omega arith;
    stands = λ i low high sought. absurd (omega (arith, low, high));
  };
})

one_item : (P : Row → Type 0) (x : Row) → P x → All P (x ∷ [])
one_item P x p zero d l = p
one_item P x p (suc k) d l = absurd (omega (arith, l))

one_table : (e : Ended) (n : ℕ) → IsTable (λ _. e) n 1 (row e n 1 ∷ [])
one_table e n = record {
  each =
      one_item (IsRow (λ _. e) n 1) (row e n 1)
      (record {
        from = omega arith;
        below = omega arith;
        ending = refl;
        none_before = λ i low high. absurd (omega (arith, low, high));
        plans = inl (refl, (0, refl, refl));
      });
  complete = λ i low high. (0, row e n 1, omega arith, refl, refl);
  rising = λ i j d l m. absurd (omega (arith, l, m));
}

-- ---- one more

below : (i m : ℕ) → i < m → nat_lt i m ≡ true
below i m l = grind (arith, nat_tests)

beyond : (i m : ℕ) → m ≤ i → nat_lt i m ≡ false
beyond i m l = grind (arith, nat_tests)

-- the endings so far, and behind them another one
abbrev and_then : (ℕ → Ended) → ℕ → Ended → ℕ → Ended
and_then ends m e i = if nat_lt i m then ends i else e

agrees_before : (ends : ℕ → Ended) (first n : ℕ) (e : Ended) → Agree ends (and_then ends (first + n) e) first n
unfolding Agree
agrees_before ends first n e i low high = ap (λ (t : Bool). if t then ends i else e) (sym (below i (first + n) high))

agrees_behind : (ends : ℕ → Ended) (first n : ℕ) (e : Ended) → Agree (λ _. e) (and_then ends (first + n) e) (first + n) 1
unfolding Agree
agrees_behind ends first n e i low high = ap (λ (t : Bool). if t then ends i else e) (sym (beyond i (first + n) low))

pub next_ending : (b was : Bool) (x : Extent) (n : ℕ) (rows others new : List Row) (e : Ended) → was ≡ false → others ≡ row e (x.first + n) 1 ∷ [] → x.first + x.most < 2 ^ 32 →
    n < x.most → (IsTrue b ↔ IsSought x.until (start_of rows e) e) → IsSomeTally x was n rows → JoinIsTable rows others new → IsSomeTally x b (n + 1) new
next_ending b was x n rows others new e on one few more answer t joins =
    let at : ℕ = x.first + n in
    let fs : ℕ → Ended = and_then t.ends at e in
    let agrees = agrees_before t.ends x.first n e in
    let before : IsTable fs x.first n rows = table_by t.ends fs x.first n rows agrees t.tally.table in
    let behind : IsTable fs at 1 (row e at 1 ∷ []) = table_by (λ _. e) fs at 1 (row e at 1 ∷ []) (agrees_behind t.ends x.first n e) (one_table e at) in
    let none : NoneSought x.until fs x.first n = none_by x.until t.ends fs x.first n agrees (going was x t.ends n on t.tally.stands) in
    record {
      ends = fs;
      tally = record {
        table = joins fs x.first n 1 before (subst (λ (rs : List Row). IsTable fs at 1 rs) (sym one) behind) (omega (arith, few, more));
        few = omega (arith, more);
        stands = stands_next b x fs n rows e before (at_end t.ends x.first n e) answer none;
      };
    }
  where
    at_end : (ends : ℕ → Ended) (first n : ℕ) (e : Ended) → e ≡ and_then ends (first + n) e (first + n)
    at_end ends first n e = ap (λ (t : Bool). if t then ends (first + n) else e) (sym (beyond (first + n) (first + n) (omega arith)))

pub ends_here : (b : Bool) (x : Extent) (n : ℕ) (rows : List Row) → (b ≡ false → n ≡ x.most) → IsSomeTally x b n rows → IsSomeTable x n rows
ends_here b x n rows all t = record { ends = t.ends; table = ends_so b x t.ends n rows all t.tally }

-- ---- what is confirmed

pub one_more : (P : Row → Type 0) (rows : List Row) (i : ℕ) (x : Row) → i < length rows → x ≡ get_or rows i x → All P (take i rows) → P x → All P (take (i + 1) rows)
one_more P rows i x l is h p = subst (All P) (ap (λ (r : Row). take i rows ++ r ∷ []) is ∙ sym (take_more rows i x l)) (All-push P (take i rows) x h p)

pub on_true : (t : Bool) (P : Type 0) → OnTrue t P → t ≡ true → P
on_true true P h e = h
on_true false P h e = absurd cc
