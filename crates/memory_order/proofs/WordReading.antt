-- The numbers of an access's bytes, as maps of words have them.
use Rattle.std.proofs.Common.{◌≡◌, ℕ, ◌+◌, ◌/◌, ◌%◌, ◌<◌, ◌≤◌, true, false, List, replicate, slice_index, if◌then◌else◌, inl, inr, ap, sym, ◌∙◌, arith}
use Rattle.std.proofs.Math.Nat.{div-add-mod, mod-lt}
use Rattle.std.proofs.lemmas.Bool.{cases_eq, cond-false, cond-true}
use Rattle.std.proofs.lemmas.Bool.Decides.{nat_tests}
use Rattle.std.proofs.lemmas.List.{get_or-replicate}
use Rattle.std.specs.BTreeMap.{BTreeMap}
use Rattle.pages.specs.Memory.{in_range}
use Rattle.memory_order.specs.Checking.{bound, word_of}

pub below_eight : (x : ℕ) → x % 8 < 8
below_eight x = mod-lt x (omega arith)

pub all_alike : (v x : ℕ) → slice_index (replicate 8 v) (x % 8) ≡ v
all_alike v x = get_or-replicate 8 (x % 8) v 0 (below_eight x)

-- of an access that goes on in the next word
pub read_across : (m : BTreeMap (ℕ × ℕ) (List ℕ)) (h a width x : ℕ) (result : List ℕ) → width ≤ 8 → in_range a width x ≡ true →
    ((j : ℕ) → slice_index result j ≡ (if in_range 0 (a % 8) j then slice_index (word_of m h (a / 8 + 1)) j else slice_index (word_of m h (a / 8)) j)) →
    slice_index result (x % 8) ≡ bound m h x
read_across m h a width x result l r e =
    let p = div-add-mod x 8 in
    let q = div-add-mod a 8 in
    let b : (a ≤ x) × (x < a + width) = (grind (arith, nat_tests), grind (arith, nat_tests)) in
    let n = below_eight x in
    let k = below_eight a in
    elim (cases_eq (x / 8) (a / 8)) [
      | inl same ↦
          let out : in_range 0 (a % 8) (x % 8) ≡ false = (let f : a % 8 ≤ x % 8 = omega (arith, p, q, b.0, same) in grind (arith, nat_tests)) in
          e (x % 8) ∙ cond-false (in_range 0 (a % 8) (x % 8)) _ _ out ∙ ap (λ w. slice_index (word_of m h w) (x % 8)) (sym same)
      | inr other ↦
          let next : x / 8 ≡ a / 8 + 1 = omega (arith, p, q, b.0, b.1, l, n, k, other) in
          let into : in_range 0 (a % 8) (x % 8) ≡ true = (let f : x % 8 < a % 8 = omega (arith, p, q, b.1, l, next) in grind (arith, nat_tests)) in
          e (x % 8) ∙ cond-true (in_range 0 (a % 8) (x % 8)) _ _ into ∙ ap (λ w. slice_index (word_of m h w) (x % 8)) (sym next)
    ]
