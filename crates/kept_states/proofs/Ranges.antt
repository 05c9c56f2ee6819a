-- Each field of the recording of a run is in its range.
use Rattle.std.proofs.Common.{◌≡◌, ℕ, zero, suc, ◌<◌, ◌≤◌, ◌^◌, ◌&&◌, ◌||◌, Bool, true, false, true≢false, List, [], ◌∷◌, length, get_or, Option, Some, None, refl, sym, arith}
use Rattle.std.specs.Prelude.{◌==◌, nat_le, if◌then◌else◌}
use Rattle.std.proofs.lemmas.Bool.Decides.{nat_tests}
use Rattle.std.specs.Int.{w64}
use Rattle.recording.specs.Fields.{HaveEach, is_within, most}
use Rattle.hart_step.specs.Stops.{has_stop}
use Rattle.hart_step.specs.declared.hart.Stop.{Stop}
use Rattle.recording.specs.Grammar.{any, most_value}
use Rattle.kept_states.specs.Summaries.{code_of, value_of}

within : (low high n : ℕ) → low ≤ n → n ≤ high → is_within low high n ≡ true
within low high n l h = grind (arith, nat_tests, l, h)

pub any_double : (n : ℕ) → n < 2 ^ 64 → (any w64).Has n
any_double n lt = (omega (arith, lt), within 0 (most w64) n (omega arith) (omega (arith, lt)))

-- ---- what is kept of a hart

pub have_doubles : (n i : ℕ) (xs : List ℕ) → length xs ≡ n → ((k : ℕ) → get_or xs k 0 < 2 ^ 64) → HaveEach n i (λ x. any w64) xs
have_doubles zero i [] e below = tt
have_doubles zero i (x ∷ xs) e below = absurd (omega (arith, e))
have_doubles (suc n) i [] e below = absurd (omega (arith, e))
have_doubles (suc n) i (x ∷ xs) e below = (any_double x (below 0), have_doubles n (suc i) xs (omega (arith, e)) (λ k. below (suc k)))

both : (a b : Bool) → (a && b) ≡ true → (a ≡ true) × (b ≡ true)
both true b e = (refl, e)
both false b e = absurd (true≢false (sym e))

code_fits : (code : ℕ) → nat_le 1 code ≡ true → nat_le code 10 ≡ true → (code < 2 ^ 8) × (is_within 0 10 code ≡ true)
code_fits code l h = (grind (arith, nat_tests, h), within 0 10 code (omega arith) (grind (arith, nat_tests, h)))

value_fits : (b : Bool) (value : ℕ) → value < 2 ^ 64 → (b || value == 0) ≡ true → is_within 0 (if b then most w64 else 0) value ≡ true
value_fits true value lt e = within 0 (most w64) value (omega arith) (omega (arith, lt))
value_fits false value lt e = let none : value ≡ 0 = grind (arith, nat_tests, e) in rw none refl

pub stop_fits : (s : Option Stop) → has_stop s ≡ true → value_of s < 2 ^ 64 → ((code_of s < 2 ^ 8) × (is_within 0 10 (code_of s) ≡ true)) × ((value_of s < 2 ^ 64) × (is_within 0 (most_value (code_of s)) (value_of s) ≡ true))
stop_fits None h lt = ((omega arith, refl), (omega arith, refl))
stop_fits (Some s) h lt =
    let outer = both (nat_le 1 s.code && nat_le s.code 10) (s.code == 1 || s.value == 0) h in
    let inner = both (nat_le 1 s.code) (nat_le s.code 10) outer.0 in
    (code_fits s.code inner.0 inner.1, (lt, value_fits (s.code == 1) s.value lt outer.1))
