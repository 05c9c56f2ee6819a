-- Two tables of plans that adjoin, joined row by row, are the table of all the plans.
use Rattle.std.proofs.Common.{◌≡◌, ◌≢◌, ℕ, zero, suc, ◌+◌, ◌-◌, ◌^◌, ◌<◌, ◌≤◌, inl, inr, List, [], ◌∷◌, ◌++◌, length, get_or, set, min, All, refl, sym, ◌∙◌, ap, subst, arith}
use Rattle.std.specs.List.{AllPairs, Any}
use Rattle.std.proofs.lemmas.Bool.{cases_eq, cases_lt}
use Rattle.std.proofs.lemmas.List.{get_or-set_other, get_or-set_same, get_or_append_left, length-set, length-append}
use Rattle.std.proofs.lemmas.List.Elements.{All-push}
use Rattle.std.proofs.lemmas.List.Quantifiers.{Any-push, all_pairs_push, any-set}
use Rattle.plan_hunt.specs.Adding.{IsNew, row}
use Rattle.plan_hunt.specs.Endings.{Ended}
use Rattle.plan_hunt.specs.Joining.{IsPart, IsPartRow, Joins}
use Rattle.plan_hunt.specs.Tables.{IsCount, IsRow, IsTable}
use Rattle.plan_hunt.specs.declared.row.Row.{Row}
use Rattle.plan_hunt.proofs.Counts.{count_both, count_none, count_within}

any_default : (xs : List Row) (i : ℕ) (d f : Row) → i < length xs → get_or xs i d ≡ get_or xs i f
any_default [] i d f lt = absurd (omega (arith, lt))
any_default (x ∷ xs) zero d f lt = refl
any_default (x ∷ xs) (suc i) d f lt = any_default xs i d f (omega (arith, lt))

any_pushed : (P : Row → Type 0) (xs : List Row) (y : Row) → Any P xs → Any P (xs ++ y ∷ [])
any_pushed P xs y a = (a.0, a.1, omega (arith, a.2, length-append xs (y ∷ [])), get_or_append_left xs (y ∷ []) a.1 a.0 a.2 ∙ a.3, a.4)

new_pushed : (xs : List Row) (y : Row) (e : Ended) → IsNew xs e → y.ending ≢ e → IsNew (xs ++ y ∷ []) e
new_pushed xs y e h ne = All-push (λ (r : Row). r.ending ≢ e) xs y h ne

-- ---- what a table says of a row and those before it

pub record IsNext (ends : ℕ → Ended) (first n m : ℕ) (joined : List Row) (s : Row) : Type 0 where
  pub is : IsRow ends (first + n) m s
  pub other : IsNew joined s.ending
  pub later : All (λ (y : Row). y.first < s.first) joined

at_seam : (ys : List Row) (s : Row) (rest : List Row) (d : Row) → get_or (ys ++ s ∷ rest) (length ys) d ≡ s
at_seam [] s rest d = refl
at_seam (y ∷ ys) s rest d = at_seam ys s rest d

pub next_of : (ends : ℕ → Ended) (first n m : ℕ) (ys : List Row) (s : Row) (rest others : List Row) → others ≡ ys ++ s ∷ rest → IsTable ends (first + n) m others → IsNext ends first n m ys s
next_of ends first n m ys s rest others e t =
    let h : IsTable ends (first + n) m (ys ++ s ∷ rest) = subst (IsTable ends (first + n) m) e t in
    let within : length ys < length (ys ++ s ∷ rest) = omega (arith, length-append ys (s ∷ rest)) in
    let is : IsRow ends (first + n) m s = subst (IsRow ends (first + n) m) (at_seam ys s rest s) (h.each (length ys) s within) in
    let later : All (λ (y : Row). y.first < s.first) ys = λ k d l.
    let lt : (get_or (ys ++ s ∷ rest) k d).first < (get_or (ys ++ s ∷ rest) (length ys) d).first = h.rising k (length ys) d l within in
    let left : (get_or (ys ++ s ∷ rest) k d).first ≡ (get_or ys k d).first = ap (λ (r : Row). r.first) (get_or_append_left ys (s ∷ rest) d k l) in
    let right : (get_or (ys ++ s ∷ rest) (length ys) d).first ≡ s.first = ap (λ (r : Row). r.first) (at_seam ys s rest d) in
    omega (arith, lt, left, right) in
    let other : IsNew ys s.ending = λ k d l q.
    let y : IsRow ends (first + n) m (get_or ys k d) =
    subst (IsRow ends (first + n) m) (get_or_append_left ys (s ∷ rest) d k l) (h.each k d (omega (arith, l, within))) in
    is.none_before (get_or ys k d).first y.from (later k d l) (sym y.ending ∙ q) in
    record { is = is; other = other; later = later }

-- ---- the rows of a part have different endings

distinct : (ends : ℕ → Ended) (first n m : ℕ) (ys rows : List Row) → IsPart ends first n m ys rows → (j k : ℕ) (d : Row) → j < length rows → k < length rows → j ≢ k →
    (get_or rows j d).ending ≢ (get_or rows k d).ending
distinct ends first n m ys rows h j k d l o ne e = elim (cases_lt j k) [
  | inl lt ↦
      (h.each k d o).none_before (get_or rows j d).first (h.each j d l).from (h.rising j k d lt o) (sym (h.each j d l).ending ∙ e)
  | inr le ↦
      (h.each j d l).none_before (get_or rows k d).first (h.each k d o).from (h.rising k j d (omega (arith, le, ne)) l) (sym (h.each k d o).ending ∙ sym e)
]

-- a row of another ending stays
other_row : (ends : ℕ → Ended) (first n m : ℕ) (ys : List Row) (s r : Row) → IsPartRow ends first n m ys r → s.ending ≢ r.ending → IsPartRow ends first n m (ys ++ s ∷ []) r
other_row ends first n m ys s r h ne = record {
  from = h.from;
  below = h.below;
  ending = h.ending;
  none_before = h.none_before;
  plans = elim h.plans [
    | inl a ↦ inl (any_pushed (λ (y : Row). y.ending ≡ r.ending) ys s a.0, a.1)
    | inr b ↦ inr (new_pushed ys s r.ending b.0 ne, b.1)
  ];
  early = elim h.early [ inl a ↦ inl a | inr b ↦ inr (any_pushed (λ (y : Row). y.first ≡ r.first) ys s b) ];
}

-- ---- the ending has a row

capped : ℕ → ℕ → ℕ
capped a b = min (a + b) (2 ^ 32 - 1)

counts_both : (ends : ℕ → Ended) (first n m : ℕ) (ys : List Row) (s r : Row) → n + m < 2 ^ 32 → IsNext ends first n m ys s → IsPartRow ends first n m ys r → r.ending ≡ s.ending →
    IsPartRow ends first n m (ys ++ s ∷ []) (row r.ending r.first (min (r.plans + s.plans) (2 ^ 32 - 1)))
counts_both ends first n m ys s r few next h e = record {
  from = h.from;
  below = h.below;
  ending = h.ending;
  none_before = h.none_before;
  plans = elim h.plans [
    | inl a ↦ absurd (next.other a.0.0 a.0.1 a.0.2 (ap (λ (y : Row). y.ending) a.0.3 ∙ a.0.4 ∙ e))
    | inr b ↦
        let both : IsCount ends first r.ending (n + m) (r.plans + s.plans) =
        count_both ends first n m r.ending r.plans s.plans b.1 (subst (λ (x : Ended). IsCount ends (first + n) x m s.plans) (sym e) next.is.plans) in
        let fits : r.plans + s.plans ≤ n + m = count_within ends first (n + m) r.ending (r.plans + s.plans) both in
        let same : r.plans + s.plans ≡ min (r.plans + s.plans) (2 ^ 32 - 1) = omega (arith, fits, few) in
        inl (Any-push (λ (y : Row). y.ending ≡ r.ending) ys s (sym e), subst (λ (k : ℕ). IsCount ends first r.ending (n + m) k) same both)
  ];
  early = elim h.early [ inl a ↦ inl a | inr b ↦ inr (any_pushed (λ (y : Row). y.first ≡ r.first) ys s b) ];
}

pub joined_old : (ends : ℕ → Ended) (first n m : ℕ) (ys rows new : List Row) (s r : Row) (p : ℕ) → n + m < 2 ^ 32 → IsNext ends first n m ys s → IsPart ends first n m ys rows →
    p < length rows → get_or rows p r ≡ r → r.ending ≡ s.ending → new ≡ set rows p (row r.ending r.first (min (r.plans + s.plans) (2 ^ 32 - 1))) → IsPart ends first n m (ys ++ s ∷ []) new
joined_old ends first n m ys rows new s r p few next h within at e is =
    let more : Row = row r.ending r.first (min (r.plans + s.plans) (2 ^ 32 - 1)) in
    let was : IsPartRow ends first n m ys r = subst (IsPartRow ends first n m ys) at (h.each p r within) in
    let is_more : IsPartRow ends first n m (ys ++ s ∷ []) more = counts_both ends first n m ys s r few next was e in
    let each : All (IsPartRow ends first n m (ys ++ s ∷ [])) (set rows p more) = λ k d l.
    let lt : k < length rows = omega (arith, l, length-set rows p more) in
    elim (cases_eq k p) [
      | inl same ↦ subst (IsPartRow ends first n m (ys ++ s ∷ [])) (sym (ap (λ (i : ℕ). get_or (set rows p more) i d) same ∙ get_or-set_same rows p more d within)) is_more
      | inr ne ↦
          let there : get_or rows p d ≡ r = any_default rows p d r within ∙ at in
          let other : s.ending ≢ (get_or rows k d).ending = λ q. distinct ends first n m ys rows h k p d lt within ne (sym q ∙ sym e ∙ ap (λ (x : Row). x.ending) (sym there)) in
          subst (IsPartRow ends first n m (ys ++ s ∷ [])) (sym (get_or-set_other rows p k more d ne)) (other_row ends first n m ys s (get_or rows k d) (h.each k d lt) other)
    ] in
    let found : (f : Ended) → Any (λ (x : Row). x.ending ≡ f) rows → Any (λ (x : Row). x.ending ≡ f) (set rows p more) = λ f a.
    elim (cases_eq a.0 p) [
      | inl q ↦
          let was_there : a.1 ≡ r = sym a.3 ∙ ap (λ (j : ℕ). get_or rows j a.1) q ∙ any_default rows p a.1 r within ∙ at in
          any-set (λ (x : Row). x.ending ≡ f) rows p more within (ap (λ (x : Row). x.ending) (sym was_there) ∙ a.4)
      | inr ne ↦ (a.0, a.1, omega (arith, a.2, length-set rows p more), get_or-set_other rows p a.0 more a.1 ne ∙ a.3, a.4)
    ] in
    let firsts : (k : ℕ) (d : Row) → k < length rows → (get_or (set rows p more) k d).first ≡ (get_or rows k d).first = λ k d l.
    elim (cases_eq k p) [
      | inl same ↦
          ap (λ (i : ℕ). (get_or (set rows p more) i d).first) same
          ∙ ap (λ (x : Row). x.first) (get_or-set_same rows p more d within)
          ∙ sym (ap (λ (i : ℕ). (get_or rows i d).first) same ∙ ap (λ (x : Row). x.first) (any_default rows p d r within ∙ at))
      | inr ne ↦ ap (λ (x : Row). x.first) (get_or-set_other rows p k more d ne)
    ] in
    let rising : AllPairs (λ (q x : Row). q.first < x.first) (set rows p more) = λ i j d l o.
    let lt : j < length rows = omega (arith, o, length-set rows p more) in
    let was_rising : (get_or rows i d).first < (get_or rows j d).first = h.rising i j d l lt in
    omega (arith, was_rising, firsts i d (omega (arith, l, lt)), firsts j d lt) in
    subst (IsPart ends first n m (ys ++ s ∷ [])) (sym is) (record {
      each = each;
      complete = λ i l o. found (ends i) (h.complete i l o);
      has_joined = All-push (λ (y : Row). Any (λ (x : Row). x.ending ≡ y.ending) (set rows p more)) ys s (λ k d l. found (get_or ys k d).ending (h.has_joined k d l))
          (any-set (λ (x : Row). x.ending ≡ s.ending) rows p more within e);
      rising = rising;
    })

-- ---- the ending is new

before : (ends : ℕ → Ended) (first n m : ℕ) (ys rows : List Row) (s : Row) → IsPart ends first n m ys rows → IsNew rows s.ending → (i : ℕ) → first ≤ i → i < first + n → ends i ≢ s.ending
before ends first n m ys rows s h new i l o q =
    let a = h.complete i l o in
    new a.0 a.1 a.2 (ap (λ (r : Row). r.ending) a.3 ∙ a.4 ∙ q)

new_row : (ends : ℕ → Ended) (first n m : ℕ) (ys rows : List Row) (s : Row) → IsNext ends first n m ys s → IsPart ends first n m ys rows → IsNew rows s.ending → IsPartRow ends first n m (ys ++ s ∷ []) s
new_row ends first n m ys rows s next h new = record {
  from = omega (arith, next.is.from);
  below = omega (arith, next.is.below);
  ending = next.is.ending;
  none_before = λ i l o. elim (cases_lt i (first + n)) [
    | inl lt ↦ before ends first n m ys rows s h new i l lt
    | inr le ↦ next.is.none_before i le o
  ];
  plans = inl (
    Any-push (λ (y : Row). y.ending ≡ s.ending) ys s refl,
    subst (λ (k : ℕ). IsCount ends first s.ending (n + m) k) (none_more s.plans) (count_both ends first n m s.ending 0 s.plans (count_none ends first n s.ending (before ends first n m ys rows s h new)) next.is.plans),
  );
  early = inr (Any-push (λ (y : Row). y.first ≡ s.first) ys s refl);
}
  where
    none_more : (k : ℕ) → 0 + k ≡ k
    none_more k = omega arith

first_below : (ends : ℕ → Ended) (first n m : ℕ) (ys : List Row) (s r : Row) → IsNext ends first n m ys s → IsPartRow ends first n m ys r → r.first < s.first
first_below ends first n m ys s r next h = elim h.early [
  | inl l ↦ omega (arith, l, next.is.from)
  | inr a ↦
      let y : a.1.first < s.first = subst (λ (x : Row). x.first < s.first) a.3 (next.later a.0 a.1 a.2) in
      omega (arith, y, a.4)
]

pub joined_new : (ends : ℕ → Ended) (first n m : ℕ) (ys rows new : List Row) (s : Row) → IsNext ends first n m ys s → IsPart ends first n m ys rows → IsNew rows s.ending →
    new ≡ rows ++ s ∷ [] → IsPart ends first n m (ys ++ s ∷ []) new
joined_new ends first n m ys rows new s next h fresh is = subst (IsPart ends first n m (ys ++ s ∷ [])) (sym is) (record {
  each = All-push (IsPartRow ends first n m (ys ++ s ∷ [])) rows s (λ k d l. other_row ends first n m ys s (get_or rows k d) (h.each k d l) (λ q. fresh k d l (sym q))) (new_row ends first n m ys rows s next h fresh);
  complete = λ i l o. any_pushed (λ (r : Row). r.ending ≡ ends i) rows s (h.complete i l o);
  has_joined = All-push (λ (y : Row). Any (λ (x : Row). x.ending ≡ y.ending) (rows ++ s ∷ [])) ys s
      (λ k d l. any_pushed (λ (r : Row). r.ending ≡ (get_or ys k d).ending) rows s (h.has_joined k d l)) (Any-push (λ (r : Row). r.ending ≡ s.ending) rows s refl);
  rising = all_pairs_push (λ (q r : Row). q.first < r.first) rows s h.rising (λ k d l. first_below ends first n m ys s (get_or rows k d) next (h.each k d l));
})

-- ---- the first and the last part

pub first_part : (ends : ℕ → Ended) (first n m : ℕ) (rows : List Row) → IsTable ends first n rows → IsPart ends first n m [] rows
first_part ends first n m rows h = record {
  each = λ k d l.
      let r = h.each k d l in
      record {
        from = r.from;
        below = omega (arith, r.below);
        ending = r.ending;
        none_before = r.none_before;
        plans = inr (λ i c o. absurd (omega (arith, o)), r.plans);
        early = inl r.below;
      };
  complete = h.complete;
  has_joined = λ k d l. absurd (omega (arith, l));
  rising = h.rising;
}

pub whole_part : (ends : ℕ → Ended) (first n m : ℕ) (others rows : List Row) → IsTable ends (first + n) m others → IsPart ends first n m others rows → IsTable ends first (n + m) rows
whole_part ends first n m others rows t h = record {
  each = λ k d l.
      let r = h.each k d l in
      record {
        from = r.from;
        below = r.below;
        ending = r.ending;
        none_before = r.none_before;
        plans = elim r.plans [
          | inl a ↦ a.1
          | inr b ↦
              let none : IsCount ends (first + n) (get_or rows k d).ending m 0 = count_none ends (first + n) m (get_or rows k d).ending (λ i low high q.
              let a = t.complete i low high in
              b.0 a.0 a.1 a.2 (ap (λ (x : Row). x.ending) a.3 ∙ a.4 ∙ q)) in
              subst (λ (c : ℕ). IsCount ends first (get_or rows k d).ending (n + m) c) (no_more (get_or rows k d).plans) (count_both ends first n m (get_or rows k d).ending (get_or rows k d).plans 0 b.1 none)
        ];
      };
  complete = λ i low high. elim (cases_lt i (first + n)) [
    | inl l ↦ h.complete i low l
    | inr le ↦
        let a = t.complete i le (omega (arith, high)) in
        let b = subst (λ (y : Row). Any (λ (r : Row). r.ending ≡ y.ending) rows) a.3 (h.has_joined a.0 a.1 a.2) in
        (b.0, b.1, b.2, b.3, b.4 ∙ a.4)
  ];
  rising = h.rising;
}
  where
    no_more : (k : ℕ) → k + 0 ≡ k
    no_more k = omega arith

pub joined_row : (ends : ℕ → Ended) (first n m : ℕ) (ys rows new : List Row) (s : Row) → n + m < 2 ^ 32 → IsNext ends first n m ys s → IsPart ends first n m ys rows → Joins rows s new → IsPart ends first n m (ys ++ s ∷ []) new
joined_row ends first n m ys rows new s few next h (inl c) = joined_old ends first n m ys rows new s c.was c.index few next h c.within c.at c.ending c.now
joined_row ends first n m ys rows new s few next h (inr c) = joined_new ends first n m ys rows new s next h c.0 c.1
