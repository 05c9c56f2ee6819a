-- Parts that are written one after the other are read one after the other.
use Rattle.std.proofs.Common.{◌≡◌, ℕ, zero, suc, ◌+◌, ◌≤◌, ◌⊎◌, inl, inr, Bool, true, false, List, [], ◌∷◌, ◌++◌, length, refl, ◌∙◌, ap, append_assoc, arith}
use Rattle.std.proofs.lemmas.List.{length-append}
use Rattle.hunt_table.specs.Reading.{many}
use Rattle.hunt_table.proofs.Loops.{at_zero, no_part, one_part}

-- the texts of parts i, i + 1, ..
abbrev pub texts : {A : Type 0} → (ℕ → A → List ℕ) → ℕ → List A → List ℕ
texts text i [] = []
texts text i (x ∷ xs) = text i x ++ texts text (i + 1) xs

-- what holds of parts i, i + 1, ..
abbrev pub AllFrom : {A : Type 0} → (ℕ → A → Type 0) → ℕ → List A → Type 0
AllFrom P i [] = Unit {0}
AllFrom P i (x ∷ xs) = P i x × AllFrom P (i + 1) xs

-- each part is read from its text
abbrev pub AreRead : {A : Type 0} → (List ℕ → Bool) → (List ℕ → A × List ℕ) → (ℕ → A → List ℕ) → (ℕ → A → Type 0) → Type 0
AreRead {A} there part text P = (i : ℕ) (a : A) (rest : List ℕ) → P i a → (there (text i a ++ rest) ≡ true) × (part (text i a ++ rest) ≡ (a, rest))

pub many_again : {A : Type 0} (there : List ℕ → Bool) (part : List ℕ → A × List ℕ) (text : ℕ → A → List ℕ) (P : ℕ → A → Type 0) → AreRead there part text P →
    (n i : ℕ) (xs : List A) (rest : List ℕ) → length xs ≤ n → (there rest ≡ false) ⊎ (n ≡ length xs) → AllFrom P i xs → many there part n (texts text i xs ++ rest) ≡ (xs, rest)
many_again there part text P reads zero i [] rest few end h = at_zero there part rest
many_again there part text P reads zero i (x ∷ xs) rest few end h = absurd (omega (arith, few))
many_again there part text P reads (suc n) i [] rest few (inl e) h = no_part there part (suc n) rest e
many_again there part text P reads (suc n) i [] rest few (inr e) h = absurd (omega (arith, e))
many_again {A} there part text P reads (suc n) i (x ∷ xs) rest few end h =
    let after : List ℕ = texts text (i + 1) xs ++ rest in
    let read = reads i x after h.0 in
    let whole : List ℕ = text i x ++ after in
    let more = many_again there part text P reads n (i + 1) xs rest (omega (arith, few)) (fewer n xs end) h.1 in
    ap (many there part (suc n)) (append_assoc (text i x) (texts text (i + 1) xs) rest)
    ∙ one_part there part n (suc n) whole refl read.0
    ∙ ap (λ (p : A × List ℕ). (p.0 ∷ (many there part n p.1).0, (many there part n p.1).1)) read.1
    ∙ ap (λ (p : List A × List ℕ). (x ∷ p.0, p.1)) more
  where
    fewer : (n : ℕ) (xs : List A) → (there rest ≡ false) ⊎ (suc n ≡ suc (length xs)) → (there rest ≡ false) ⊎ (n ≡ length xs)
    fewer n xs (inl e) = inl e
    fewer n xs (inr e) = inr (omega (arith, e))

some_text : (there : List ℕ → Bool) (t : List ℕ) → there (t ++ []) ≡ true → there [] ≡ false → 1 ≤ length t
some_text there [] e f = absurd cc
some_text there (x ∷ xs) e f = omega arith

-- there are no more parts than bytes
length-texts : {A : Type 0} (there : List ℕ → Bool) (part : List ℕ → A × List ℕ) (text : ℕ → A → List ℕ) (P : ℕ → A → Type 0) → AreRead there part text P → there [] ≡ false →
    (i : ℕ) (xs : List A) → AllFrom P i xs → length xs ≤ length (texts text i xs)
length-texts there part text P reads none i [] h = omega arith
length-texts there part text P reads none i (x ∷ xs) h =
    omega (arith, length-append (text i x) (texts text (i + 1) xs), some_text there (text i x) (reads i x [] h.0).0 none, length-texts there part text P reads none (i + 1) xs h.1)

pub lines_again : {A : Type 0} (there : List ℕ → Bool) (part : List ℕ → A × List ℕ) (text : ℕ → A → List ℕ) (P : ℕ → A → Type 0) → AreRead there part text P → there [] ≡ false →
    (i : ℕ) (xs : List A) (rest : List ℕ) → there rest ≡ false → AllFrom P i xs → many there part (length (texts text i xs ++ rest)) (texts text i xs ++ rest) ≡ (xs, rest)
lines_again there part text P reads none i xs rest end h =
    many_again there part text P reads (length (texts text i xs ++ rest)) i xs rest (omega (arith, length-append (texts text i xs) rest, length-texts there part text P reads none i xs h)) (inl end) h
