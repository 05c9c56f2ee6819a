-- The first number from another on that passes a test.
use Rattle.std.proofs.Common.{◌≡◌, ℕ, suc, ◌+◌, ◌-◌, ◌<◌, Bool, true, false, if◌then◌else◌, Option, Some, sym, ap, ◌∙◌, arith}
use Rattle.byte_sources.specs.Marks.{first_from}

first_step : (test : ℕ → Bool) (a n : ℕ) → a < n → first_from test a (n - a) ≡ (if test a then Some a else first_from test (a + 1) (n - (a + 1)))
first_step test a n l = let e : n - a ≡ suc (n - (a + 1)) = omega arith in ap (first_from test a) e

-- it is a, where a passes
pub first_found : (test : ℕ → Bool) (a n : ℕ) (answer : Option ℕ) → answer ≡ first_from test a (n - a) → a < n → test a ≡ true → Some a ≡ answer
first_found test a n answer e l h = sym (e ∙ first_step test a n l ∙ ap (λ (b : Bool). if b then Some a else first_from test (a + 1) (n - (a + 1))) h)

-- and else the first from a + 1 on
pub first_passed : (test : ℕ → Bool) (a n : ℕ) (answer : Option ℕ) → answer ≡ first_from test a (n - a) → a < n → test a ≡ false → answer ≡ first_from test (a + 1) (n - (a + 1))
first_passed test a n answer e l h = e ∙ first_step test a n l ∙ ap (λ (b : Bool). if b then Some a else first_from test (a + 1) (n - (a + 1))) h
