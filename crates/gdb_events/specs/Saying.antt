-- What the user is told where there is nothing to tell.
use Rattle.std.specs.Prelude.{ℕ, List, [], ◌∷◌}

-- a text, and another one where it is empty
abbrev pub text_or : List ℕ → List ℕ → List ℕ
text_or none [] = none
text_or none (b ∷ bs) = b ∷ bs
