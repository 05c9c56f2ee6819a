-- What an operation leaves of bytes, one after another.
use Rattle.std.proofs.Common.{◌≡◌, ◌≢◌, ℕ, ◌+◌, ◌<◌, ◌≤◌, ◌==◌, Bool, true, false, if◌then◌else◌, sym, ap, ◌∙◌, inl, inr, arith}
use Rattle.std.proofs.lemmas.Bool.{cases_eq, eq-eqb, ne_eqb}
use Rattle.std.proofs.lemmas.Bool.Decides.{nat_tests}
use Rattle.pages.specs.Memory.{in_range}
use Rattle.run_bounds.specs.declared.touched.TouchedByte.{TouchedByte}

range_end : (a k : ℕ) → in_range a k (a + k) ≡ false
range_end a k = grind (arith, nat_tests)

range_last : (a k x : ℕ) → a + k ≡ x → in_range a (k + 1) x ≡ true
range_last a k x e = grind (arith, nat_tests)

range_other : (a k x : ℕ) → a + k ≢ x → in_range a (k + 1) x ≡ in_range a k x
range_other a k x n = grind (arith, nat_tests)

pub touched_more : (a k : ℕ) (f : ℕ → TouchedByte → TouchedByte) (i o n : ℕ → TouchedByte) (b : TouchedByte) →
    ((x : ℕ) → o x ≡ (if in_range a k x then f x (i x) else i x)) → b ≡ f (a + k) (o (a + k)) → b.address ≡ a + k →
    ((x : ℕ) → n x ≡ (if b.address == x then b else o x)) → (x : ℕ) → n x ≡ (if in_range a (k + 1) x then f x (i x) else i x)
touched_more a k f i o n b old is at new x = elim (cases_eq (a + k) x) [
  | inl e ↦
      new x ∙ ap (λ (t : Bool). if t then b else o x) (eq-eqb b.address x (at ∙ e))
      ∙ is ∙ ap (λ (d : TouchedByte). f (a + k) d) (old (a + k) ∙ ap (λ (t : Bool). if t then f (a + k) (i (a + k)) else i (a + k)) (range_end a k))
      ∙ ap (λ (y : ℕ). f y (i y)) e ∙ sym (ap (λ (t : Bool). if t then f x (i x) else i x) (range_last a k x e))
  | inr d ↦
      new x ∙ ap (λ (t : Bool). if t then b else o x) (ne_eqb b.address x (λ e. d (sym at ∙ e)))
      ∙ old x ∙ sym (ap (λ (t : Bool). if t then f x (i x) else i x) (range_other a k x d))
]

pub within_range : (a n x : ℕ) → in_range a n x ≡ true → (a ≤ x) × (x < a + n)
within_range a n x e = (grind (arith, nat_tests), grind (arith, nat_tests))
