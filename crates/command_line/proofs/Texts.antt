-- A text with a default, as text, a text with a front that may be there, and an answer that is none.
use Rattle.std.proofs.Common.{◌≡◌, ◌∙◌, ℕ, Bool, List, Option, Some, None, Bor, true, false, refl, sym, ap, not, option_map, true≢false, unwrap_or}

pub text_or : (found : Option (Bor (List ℕ))) (default result : Bor (List ℕ)) (text : Option (List ℕ)) → result ≡ unwrap_or found default
    → option_map (λ s. s.now) found ≡ text → result.now ≡ unwrap_or text default.now
text_or found default result text is shows = ap (λ s. s.now) is ∙ go found ∙ ap (λ t. unwrap_or t default.now) shows
  where
    go : (o : Option (Bor (List ℕ))) → (unwrap_or o default).now ≡ unwrap_or (option_map (λ s. s.now) o) default.now
    go None = refl
    go (Some s) = refl

pub turned : (a b : Bool) → a ≡ not b → b ≡ not a
turned true true e = absurd (true≢false e)
turned true false e = refl
turned false true e = refl
turned false false e = absurd (true≢false (sym e))
