-- The number of some digits is the one of the definitions.
use Rattle.std.proofs.Common.{◌≡◌, ◌^◌, ◌&&◌, ℕ, Bool, true, false, refl, sym, ap, List, [], ◌∷◌, length, None, Result, Ok, Err, Some, true≢false, nat_lt, lt-ltb, ltb-true}
use Rattle.std.specs.List.{list_all}
use Rattle.std.specs.Result.{result_ok}
use Rattle.std.specs.Char.{digit_value}
use Rattle.std.specs.Str.Parse.{AllDigits, ParsesUnsigned, digits_value, without_leading_plus}
use Rattle.command_line.specs.Reading.{is_number, number_in}

digits_pass : (radix : ℕ) (ds : List ℕ) → AllDigits radix ds → list_all (λ d. nat_lt (digit_value d) radix) ds ≡ true
digits_pass radix [] h = refl
digits_pass radix (d ∷ ds) h = rw (lt-ltb (digit_value d) radix h.0) (digits_pass radix ds h.1)

both : (a b : Bool) → (a && b) ≡ true → (a ≡ true) × (b ≡ true)
both true b e = (refl, e)
both false b e = absurd (true≢false (sym e))

digits_from : (radix : ℕ) (ds : List ℕ) → list_all (λ d. nat_lt (digit_value d) radix) ds ≡ true → AllDigits radix ds
digits_from radix [] e = tt
digits_from radix (d ∷ ds) e =
    let parts = both _ _ e in
    (ltb-true _ _ parts.0, digits_from radix ds parts.1)

pub number_parsed : {E : Type 0} (bits radix : ℕ) (text : List ℕ) (r : Result ℕ E) → ParsesUnsigned bits radix text r → result_ok r ≡ number_in bits radix text
number_parsed bits radix text (Ok n) h =
    let ds = without_leading_plus text in
    rw (lt-ltb 0 (length ds) h.0.0.0, digits_pass radix ds h.0.0.1, lt-ltb (digits_value radix ds) (2 ^ bits) h.0.1) (ap (λ m. Some m) h.1)
number_parsed bits radix text (Err e) h = go (is_number bits radix text) refl
  where
    go : (b : Bool) → is_number bits radix text ≡ b → None ≡ number_in bits radix text
    go false t = rw t refl
    go true t =
        let outer = both _ _ t in
        let inner = both _ _ outer.0 in
        absurd (h ((ltb-true _ _ inner.0, digits_from radix (without_leading_plus text) inner.1), ltb-true _ _ outer.1))
