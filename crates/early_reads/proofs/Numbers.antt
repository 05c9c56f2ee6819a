-- Numbers of the code behind an instruction.
use Rattle.std.proofs.Common.{◌≡◌, ◌≢◌, ℕ, ◌<◌, ◌≤◌, ◌==◌, if◌then◌else◌, inl, inr, List, [], length, get_or, slice_set, Option, Some, None, sym, ap, ◌∙◌, length-set, arith}
use Rattle.std.proofs.lemmas.Bool.{cases_eq, cases_lt, cond-false, cond-true, eq-eqb, ne_eqb}
use Rattle.std.proofs.lemmas.List.{get_or_past, get_or-set_other, get_or-set_same}
use Rattle.all_endings.specs.Locality.{set_view, view}
use Rattle.private_bytes.specs.Ahead.{Tells}
use Rattle.early_reads.specs.EarlyMaps.{Agrees}

view_at : (v : List (Option ℕ)) (r : ℕ) → r ≢ 0 → view v r ≡ get_or v r None
view_at v r some = cond-false (r == 0) (Some 0) (get_or v r None) (ne_eqb r 0 some)

view_zero : (v : List (Option ℕ)) (r : ℕ) → r ≡ 0 → view v r ≡ Some 0
view_zero v r none = cond-true (r == 0) (Some 0) (get_or v r None) (eq-eqb r 0 none)

zero_agrees : (v w : List (Option ℕ)) (r n l : ℕ) → r ≡ 0 → view v r ≡ Some n → view w r ≡ Some l → n ≡ l
zero_agrees v w r n l z e f = let a = view_zero v r z in let b = view_zero w r z in cc

none_past : (v : List (Option ℕ)) (r : ℕ) → length v ≤ r → get_or v r None ≡ None
none_past v r l = get_or_past v r None (omega (arith, l))

-- of a register that was set: what it was set to, if it is known
set_there : (w : List (Option ℕ)) (r l : ℕ) (o : Option ℕ) → get_or (slice_set w r o) r None ≡ Some l → o ≡ Some l
set_there w r l o e = elim (cases_lt r (length w)) [
  | inl in_it ↦ sym (get_or-set_same w r o None in_it) ∙ e
  | inr past ↦ let z = none_past (slice_set w r o) r (let s = length-set w r o in omega (arith, s, past)) in absurd (cc)
]

set_view_at : (w : List (Option ℕ)) (rd : ℕ) (o : Option ℕ) → rd ≢ 0 → set_view w rd o ≡ slice_set w rd o
set_view_at w rd o some = cond-false (rd == 0) w (slice_set w rd o) (ne_eqb rd 0 some)

set_view_zero : (w : List (Option ℕ)) (rd : ℕ) (o : Option ℕ) → rd ≡ 0 → set_view w rd o ≡ w
set_view_zero w rd o none = cond-true (rd == 0) w (slice_set w rd o) (eq-eqb rd 0 none)

other_view : (w : List (Option ℕ)) (rd r : ℕ) (o : Option ℕ) → r ≢ 0 → r ≢ rd → view (set_view w rd o) r ≡ view w r
other_view w rd r o some other = elim (cases_eq rd 0) [
  | inl z ↦ ap (λ (v : List (Option ℕ)). view v r) (set_view_zero w rd o z)
  | inr z ↦
      ap (λ (v : List (Option ℕ)). view v r) (set_view_at w rd o z)
      ∙ (view_at (slice_set w rd o) r some ∙ (get_or-set_other w rd r o None other ∙ sym (view_at w r some)))
]

pub agrees_set : (told before w : List (Option ℕ)) (rd : ℕ) (value o : Option ℕ) → length told ≡ 32 →
    ((k : ℕ) → 1 ≤ k → k < 32 → Tells (get_or told k None) (if k == rd then value else get_or before k None)) →
    Agrees before w → ((n l : ℕ) → value ≡ Some n → o ≡ Some l → n ≡ l) → Agrees told (set_view w rd o)
agrees_set told before w rd value o size tells agrees values r n l e f = elim (cases_eq r 0) [
  | inl z ↦ zero_agrees told (set_view w rd o) r n l z e f
  | inr some ↦ elim (cases_lt r 32) [
    | inr past ↦ let a = view_at told r some in let b = none_past told r (omega (arith, past, size)) in absurd (cc)
    | inl below ↦
        let here : get_or told r None ≡ Some n = sym (view_at told r some) ∙ e in
        let there = tells r (omega (arith, some)) below n here in
        elim (cases_eq r rd) [
          | inl same ↦
              let v : value ≡ Some n = sym (cond-true (r == rd) value (get_or before r None) (eq-eqb r rd same)) ∙ there in
              let nonzero : rd ≢ 0 = λ q. some (same ∙ q) in
              let g : get_or (slice_set w rd o) rd None ≡ Some l =
              ap (λ (q : ℕ). get_or (slice_set w rd o) q None) (sym same) ∙ (sym (view_at (slice_set w rd o) r some) ∙ (ap (λ (u : List (Option ℕ)). view u r) (sym (set_view_at w rd o nonzero)) ∙ f)) in
              values n l v (set_there w rd l o g)
          | inr other ↦
              let b : get_or before r None ≡ Some n = sym (cond-false (r == rd) value (get_or before r None) (ne_eqb r rd other)) ∙ there in
              agrees r n l (view_at before r some ∙ b) (sym (other_view w rd r o some other) ∙ f)
        ]
  ]
]

-- where nothing is told
pub none_agrees : (w : List (Option ℕ)) → Agrees [] w
none_agrees w r n l e f = elim (cases_eq r 0) [
  | inl z ↦ zero_agrees [] w r n l z e f
  | inr some ↦ let a = view_at [] r some in let b = none_past [] r (omega arith) in absurd (cc)
]

pub agrees_self : (w : List (Option ℕ)) → Agrees w w
agrees_self w r n l e f = cc
