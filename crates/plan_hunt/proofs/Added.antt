-- A table with one more plan is the table of one more plan.
use Rattle.std.proofs.Common.{◌≡◌, ◌≢◌, ℕ, zero, suc, ◌+◌, ◌<◌, ◌≤◌, inl, inr, List, [], ◌∷◌, ◌++◌, length, get_or, set, All, refl, sym, ◌∙◌, ap, subst, arith, add-one}
use Rattle.std.specs.List.{AllPairs, Any}
use Rattle.std.proofs.lemmas.Bool.{cases_eq, cases_lt}
use Rattle.std.proofs.lemmas.List.{get_or-set_other, get_or-set_same, get_or_append_left, length-set, length-append}
use Rattle.std.proofs.lemmas.List.Elements.{All-push}
use Rattle.std.proofs.lemmas.List.Quantifiers.{Any-push, all_pairs_push, any-set}
use Rattle.plan_hunt.specs.Adding.{Adds, CountsOneMore, IsNew, row}
use Rattle.plan_hunt.specs.Endings.{Ended}
use Rattle.plan_hunt.specs.Tables.{IsCount, IsRow, IsTable}
use Rattle.plan_hunt.specs.declared.row.Row.{Row}
use Rattle.plan_hunt.proofs.Counts.{count_none, count_within}

-- a row of another ending stays
keeps : (ends : ℕ → Ended) (first n : ℕ) (r : Row) → IsRow ends first n r → ends (first + n) ≢ r.ending → IsRow ends first (suc n) r
keeps ends first n r h other = record {
  from = h.from;
  below = omega (arith, h.below);
  ending = h.ending;
  none_before = h.none_before;
  plans = inr (other, h.plans);
}

-- two rows of a table have different endings
differ : (ends : ℕ → Ended) (first n : ℕ) (q r : Row) → IsRow ends first n q → IsRow ends first n r → q.first < r.first → q.ending ≢ r.ending
differ ends first n q r h k l e = k.none_before q.first h.from l (sym h.ending ∙ e)

other_ending : (ends : ℕ → Ended) (first n : ℕ) (rows : List Row) → IsTable ends first n rows → (j k : ℕ) (q r : Row) → j < length rows → k < length rows → j ≢ k →
    get_or rows j q ≡ q → get_or rows k r ≡ r → q.ending ≢ r.ending
other_ending ends first n rows h j k q r l m ne p s e =
    let hq : IsRow ends first n q = subst (IsRow ends first n) p (h.each j q l) in
    let hr : IsRow ends first n r = subst (IsRow ends first n) s (h.each k r m) in
    elim (cases_lt j k) [
      | inl lt ↦
          let at_j : get_or rows j r ≡ q = any_default rows j r q l ∙ p in
          let below : q.first < r.first = subst (λ (x : Row). x.first < r.first) at_j (subst (λ (x : Row). (get_or rows j r).first < x.first) s (h.rising j k r lt m)) in
          differ ends first n q r hq hr below e
      | inr le ↦
          let gt : k < j = omega (arith, le, ne) in
          let at_k : get_or rows k q ≡ r = any_default rows k q r m ∙ s in
          let below : r.first < q.first = subst (λ (x : Row). x.first < q.first) at_k (subst (λ (x : Row). (get_or rows k q).first < x.first) p (h.rising k j q gt l)) in
          differ ends first n r q hr hq below (sym e)
    ]
  where
    any_default : (xs : List Row) (i : ℕ) (d f : Row) → i < length xs → get_or xs i d ≡ get_or xs i f
    any_default [] i d f lt = absurd (omega (arith, lt))
    any_default (x ∷ xs) zero d f lt = refl
    any_default (x ∷ xs) (suc i) d f lt = any_default xs i d f (omega (arith, lt))

-- ---- a row counts one more

one_more : (ends : ℕ → Ended) (first n : ℕ) (e : Ended) (r : Row) → IsRow ends first n r → r.ending ≡ e → e ≡ ends (first + n) → IsRow ends first (suc n) (row e r.first (r.plans + 1))
one_more ends first n e r h is at = record {
  from = h.from;
  below = omega (arith, h.below);
  ending = sym is ∙ h.ending;
  none_before = λ i l m q. h.none_before i l m (q ∙ sym is);
  plans = inl (sym at, (r.plans, add-one r.plans, subst (λ (x : Ended). IsCount ends first x n r.plans) is h.plans));
}

counted : (ends : ℕ → Ended) (first n : ℕ) (rows new : List Row) (e : Ended) → IsTable ends first n rows → e ≡ ends (first + n) → CountsOneMore rows new e → IsTable ends first (suc n) new
counted ends first n rows new e h at c =
    let more : Row = row e c.was.first (c.was.plans + 1) in
    let was : IsRow ends first n c.was = subst (IsRow ends first n) c.at (h.each c.index c.was c.within) in
    let is_more : IsRow ends first (suc n) more = one_more ends first n e c.was was c.ending at in
    let each : All (IsRow ends first (suc n)) (set rows c.index more) = λ k d l.
    let lt : k < length rows = omega (arith, l, length-set rows c.index more) in
    elim (cases_eq k c.index) [
      | inl same ↦ subst (IsRow ends first (suc n)) (sym (ap (λ (i : ℕ). get_or (set rows c.index more) i d) same ∙ get_or-set_same rows c.index more d c.within)) is_more
      | inr ne ↦
          let r : Row = get_or rows k d in
          let hr : IsRow ends first n r = h.each k d lt in
          let self : get_or rows k r ≡ r = any_default rows k r d lt in
          let other : ends (first + n) ≢ r.ending = λ q. other_ending ends first n rows h c.index k c.was r c.within lt (λ z. ne (sym z)) c.at self (c.ending ∙ at ∙ q) in
          subst (IsRow ends first (suc n)) (sym (get_or-set_other rows c.index k more d ne)) (keeps ends first n r hr other)
    ] in
    let complete : (i : ℕ) → first ≤ i → i < first + suc n → Any (λ (r : Row). r.ending ≡ ends i) (set rows c.index more) = λ i l m.
    elim (cases_eq i (first + n)) [
      | inl same ↦ any-set (λ (r : Row). r.ending ≡ ends i) rows c.index more c.within (at ∙ ap ends (sym same))
      | inr ne ↦
          let a = h.complete i l (omega (arith, m, ne)) in
          elim (cases_eq a.0 c.index) [
            | inl q ↦
                let was_there : a.1 ≡ c.was = sym a.3 ∙ ap (λ (j : ℕ). get_or rows j a.1) q ∙ any_default rows c.index a.1 c.was c.within ∙ c.at in
                any-set (λ (r : Row). r.ending ≡ ends i) rows c.index more c.within (sym c.ending ∙ ap (λ (r : Row). r.ending) (sym was_there) ∙ a.4)
            | inr other ↦ (a.0, a.1, omega (arith, a.2, length-set rows c.index more), get_or-set_other rows c.index a.0 more a.1 other ∙ a.3, a.4)
          ]
    ] in
    let firsts : (k : ℕ) (d : Row) → k < length rows → (get_or (set rows c.index more) k d).first ≡ (get_or rows k d).first = λ k d l.
    elim (cases_eq k c.index) [
      | inl same ↦
          ap (λ (i : ℕ). (get_or (set rows c.index more) i d).first) same
          ∙ ap (λ (r : Row). r.first) (get_or-set_same rows c.index more d c.within)
          ∙ sym (ap (λ (i : ℕ). (get_or rows i d).first) same ∙ ap (λ (r : Row). r.first) (any_default rows c.index d c.was c.within ∙ c.at))
      | inr ne ↦ ap (λ (r : Row). r.first) (get_or-set_other rows c.index k more d ne)
    ] in
    let rising : AllPairs (λ (q r : Row). q.first < r.first) (set rows c.index more) = λ i j d l m.
    let lt : j < length rows = omega (arith, m, length-set rows c.index more) in
    let was_rising : (get_or rows i d).first < (get_or rows j d).first = h.rising i j d l lt in
    omega (arith, was_rising, firsts i d (omega (arith, l, lt)), firsts j d lt) in
    subst (IsTable ends first (suc n)) (sym c.now) (record { each = each; complete = complete; rising = rising })
  where
    any_default : (xs : List Row) (i : ℕ) (d f : Row) → i < length xs → get_or xs i d ≡ get_or xs i f
    any_default [] i d f lt = absurd (omega (arith, lt))
    any_default (x ∷ xs) zero d f lt = refl
    any_default (x ∷ xs) (suc i) d f lt = any_default xs i d f (omega (arith, lt))

-- ---- a row is new

fresh : (ends : ℕ → Ended) (first n : ℕ) (rows : List Row) (e : Ended) → IsTable ends first n rows → IsNew rows e → (i : ℕ) → first ≤ i → i < first + n → ends i ≢ e
fresh ends first n rows e h new i l m q =
    let a = h.complete i l m in
    new a.0 a.1 a.2 (ap (λ (r : Row). r.ending) a.3 ∙ a.4 ∙ q)

pushed : (ends : ℕ → Ended) (first n : ℕ) (rows : List Row) (e : Ended) → IsTable ends first n rows → e ≡ ends (first + n) → IsNew rows e → IsTable ends first (suc n) (rows ++ row e (first + n) 1 ∷ [])
pushed ends first n rows e h at new = record {
  each = All-push (IsRow ends first (suc n)) rows (row e (first + n) 1) (λ k d l. keeps ends first n (get_or rows k d) (h.each k d l) (λ q. new k d l (sym q ∙ sym at))) (record {
    from = omega arith;
    below = omega arith;
    ending = at;
    none_before = fresh ends first n rows e h new;
    plans = inl (sym at, (0, refl, count_none ends first n e (fresh ends first n rows e h new)));
  });
  complete = λ i l m. elim (cases_eq i (first + n)) [
    | inl same ↦ Any-push (λ (r : Row). r.ending ≡ ends i) rows (row e (first + n) 1) (at ∙ ap ends (sym same))
    | inr ne ↦
        let a = h.complete i l (omega (arith, m, ne)) in
        (a.0, a.1, omega (arith, a.2, length-append rows (row e (first + n) 1 ∷ [])), get_or_append_left rows (row e (first + n) 1 ∷ []) a.1 a.0 a.2 ∙ a.3, a.4)
  ];
  rising = all_pairs_push (λ (q r : Row). q.first < r.first) rows (row e (first + n) 1) h.rising (λ k d l. (h.each k d l).below);
}

pub table_adds : (ends : ℕ → Ended) (first n : ℕ) (rows new : List Row) (e : Ended) → IsTable ends first n rows → e ≡ ends (first + n) → Adds rows (first + n) e new → IsTable ends first (n + 1) new
table_adds ends first n rows new e h at (inl c) = subst (λ (k : ℕ). IsTable ends first k new) (sym (add-one n)) (counted ends first n rows new e h at c)
table_adds ends first n rows new e h at (inr c) =
    subst (λ (k : ℕ). IsTable ends first k new) (sym (add-one n)) (subst (IsTable ends first (suc n)) (sym c.1) (pushed ends first n rows e h at c.0))

pub no_rows : (ends : ℕ → Ended) (first : ℕ) → IsTable ends first 0 []
no_rows ends first = record {
  each = λ k d l. absurd (omega (arith, l));
  complete = λ i l m. absurd (omega (arith, l, m));
  rising = λ i j d l m. absurd (omega (arith, m));
}

-- a row counts at most as many plans as there are
pub plans_fit : (ends : ℕ → Ended) (first n most : ℕ) (rows : List Row) → IsTable ends first n rows → n + 1 < most → All (λ (r : Row). r.plans + 1 < most) rows
plans_fit ends first n most rows h l = λ k d m. omega (arith, l, count_within ends first n (get_or rows k d).ending (get_or rows k d).plans (h.each k d m).plans)
