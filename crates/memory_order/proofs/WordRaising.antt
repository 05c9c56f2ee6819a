-- Some numbers of a word raised, as a map of words has it.
use Rattle.std.proofs.Common.{◌≡◌, ◌≢◌, ℕ, ◌+◌, ◌*◌, ◌/◌, ◌%◌, ◌≤◌, ◌==◌, ◌&&◌, Bool, true, false, max, List, Option, Some, replicate, slice_index, unwrap_or, if◌then◌else◌, inl, inr, ap, sym, ◌∙◌, arith}
use Rattle.std.proofs.Math.Nat.{div-add-mod}
use Rattle.std.proofs.lemmas.Bool.{cases_eq}
use Rattle.std.proofs.lemmas.Bool.Decides.{nat_tests}
use Rattle.std.specs.BTreeMap.{is_at}
use Rattle.pages.specs.Memory.{in_range}
use Rattle.memory_order.specs.Checking.{pair_cmp}

pick : (b t : Bool) (o m : Option (List ℕ)) (n z : List ℕ) → b ≡ t → m ≡ (if b then Some n else o) → unwrap_or m z ≡ (if t then n else unwrap_or o z)
pick true true o m n z e g = ap (λ p. unwrap_or p z) g
pick false false o m n z e g = ap (λ p. unwrap_or p z) g
pick true false o m n z e g = cc
pick false true o m n z e g = cc

pair_at : (a b h x : ℕ) → is_at (pair_cmp (a, b)) (h, x) ≡ (h == a && x == b)
pair_at a b h x = grind (arith, nat_tests)

range_inside : (w first count x : ℕ) → x / 8 ≡ w → in_range (8 * w + first) count x ≡ in_range first count (x % 8)
range_inside w first count x e = let d = div-add-mod x 8 in let p : 8 * (x / 8) ≡ 8 * w = ap (λ n. 8 * n) e in grind (arith, nat_tests)

range_outside : (w first count x : ℕ) → first + count ≤ 8 → x / 8 ≢ w → in_range (8 * w + first) count x ≡ false
range_outside w first count x l other = grind (arith, nat_tests)

pub word_raised : (a w first count : ℕ) (was eight vs : List ℕ) (old new : ℕ → ℕ → Option (List ℕ)) → first + count ≤ 8 → was ≡ unwrap_or (old a w) (replicate 8 0) →
    ((j : ℕ) → slice_index eight j ≡ (if in_range first count j then max (slice_index was j) (slice_index vs j) else slice_index was j)) →
    ((h n : ℕ) → new h n ≡ (if is_at (pair_cmp (a, w)) (h, n) then Some eight else old h n)) →
    (h x : ℕ) → slice_index (unwrap_or (new h (x / 8)) (replicate 8 0)) (x % 8) ≡
    (if h == a && in_range (8 * w + first) count x then max (slice_index (unwrap_or (old h (x / 8)) (replicate 8 0)) (x % 8)) (slice_index vs (x % 8)) else slice_index (unwrap_or (old h (x / 8)) (replicate 8 0)) (x % 8))
word_raised a w first count was eight vs old new l e g is h x =
    let found = pick (is_at (pair_cmp (a, w)) (h, x / 8)) (h == a && x / 8 == w) (old h (x / 8)) (new h (x / 8)) eight (replicate 8 0) (pair_at a w h (x / 8)) (is h (x / 8)) in
    let at : slice_index (unwrap_or (new h (x / 8)) (replicate 8 0)) (x % 8) ≡ slice_index (if h == a && x / 8 == w then eight else unwrap_or (old h (x / 8)) (replicate 8 0)) (x % 8) = ap (λ p. slice_index p (x % 8)) found in
    elim (cases_eq h a) [
      | inr other ↦ grind (arith, nat_tests)
      | inl hart ↦ elim (cases_eq (x / 8) w) [
        | inr other ↦ let out = range_outside w first count x l other in grind (arith, nat_tests)
        | inl word ↦ let into = range_inside w first count x word in
            let same : was ≡ unwrap_or (old h (x / 8)) (replicate 8 0) = e ∙ ap (λ n. unwrap_or (old n w) (replicate 8 0)) (sym hart) ∙ ap (λ n. unwrap_or (old h n) (replicate 8 0)) (sym word) in
            let s : slice_index was (x % 8) ≡ slice_index (unwrap_or (old h (x / 8)) (replicate 8 0)) (x % 8) = ap (λ p. slice_index p (x % 8)) same in
            let r = g (x % 8) in grind (arith, nat_tests)
      ]
    ]
