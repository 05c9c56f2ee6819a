-- One number of eight written.
use Rattle.std.proofs.Common.{◌≡◌, ℕ, ◌+◌, ◌<◌, max, List, length, slice_index, slice_set, if◌then◌else◌, inl, inr, ap, sym, ◌∙◌, arith}
use Rattle.std.proofs.lemmas.Bool.{cases_eq}
use Rattle.std.proofs.lemmas.Bool.Decides.{nat_tests}
use Rattle.std.proofs.lemmas.List.{get_or-set_other, get_or-set_same}
use Rattle.pages.specs.Memory.{in_range}

pub raise_at : (old now : List ℕ) (vs : List ℕ) (first k m : ℕ) → first + k < length now → m ≡ max (slice_index now (first + k)) (slice_index vs (first + k)) →
    ((j : ℕ) → slice_index now j ≡ (if in_range first k j then max (slice_index old j) (slice_index vs j) else slice_index old j)) →
    (j : ℕ) → slice_index (slice_set now (first + k) m) j ≡ (if in_range first (k + 1) j then max (slice_index old j) (slice_index vs j) else slice_index old j)
raise_at old now vs first k m l e g j = elim (cases_eq j (first + k)) [
  | inl same ↦ let at : slice_index (slice_set now (first + k) m) j ≡ m = ap (λ p. slice_index (slice_set now (first + k) m) p) same ∙ get_or-set_same now (first + k) m 0 l in
      let b = g j in
      let vv : slice_index vs (first + k) ≡ slice_index vs j = ap (λ p. slice_index vs p) (sym same) in
      let s : slice_index now (first + k) ≡ slice_index now j = ap (λ p. slice_index now p) (sym same) in grind (arith, nat_tests)
  | inr other ↦ let at : slice_index (slice_set now (first + k) m) j ≡ slice_index now j = get_or-set_other now (first + k) j m 0 other in
      let b = g j in grind (arith, nat_tests)
]

pub write_at : (old now others : List ℕ) (k v : ℕ) → k < length now → v ≡ slice_index others k →
    ((j : ℕ) → slice_index now j ≡ (if in_range 0 k j then slice_index others j else slice_index old j)) →
    (j : ℕ) → slice_index (slice_set now k v) j ≡ (if in_range 0 (k + 1) j then slice_index others j else slice_index old j)
write_at old now others k v l e g j = elim (cases_eq j k) [
  | inl same ↦ let at : slice_index (slice_set now k v) j ≡ v = ap (λ p. slice_index (slice_set now k v) p) same ∙ get_or-set_same now k v 0 l in
      let s : slice_index others k ≡ slice_index others j = ap (λ p. slice_index others p) (sym same) in grind (arith, nat_tests)
  | inr other ↦ let at : slice_index (slice_set now k v) j ≡ slice_index now j = get_or-set_other now k j v 0 other in
      let b = g j in grind (arith, nat_tests)
]
