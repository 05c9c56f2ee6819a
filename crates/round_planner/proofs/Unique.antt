-- No text has two readings as a plan.
use Rattle.std.proofs.Common.{◌≡◌, ℕ, ◌<◌, List, [], ◌∷◌, ◌++◌, length, refl, sym, ◌∙◌, ap, arith, append_assoc}
use Rattle.std.specs.List.{flat_map, AllByRecursion}
use Rattle.round_planner.specs.Grammar.{IsDigit, IsNumeral, IsRow, ReadingIsUnique, row_text}

digits_of : (w : List ℕ) → IsNumeral w → AllByRecursion IsDigit w
digits_of [] h = tt
digits_of (d ∷ ds) h = (h.0, h.1)

-- digits end where a byte below the digits stands
digits_split : (w v : List ℕ) (c d : ℕ) (x y : List ℕ) → AllByRecursion IsDigit w → AllByRecursion IsDigit v → c < 48 → d < 48 →
    w ++ c ∷ x ≡ v ++ d ∷ y → (w ≡ v) × (c ≡ d) × (x ≡ y)
digits_split [] [] c d x y g h l m e = (refl, (cc), (cc))
digits_split [] (f ∷ v) c d x y g h l m e = let same : c ≡ f = (cc) in absurd (omega (arith, h.0.0))
digits_split (f ∷ w) [] c d x y g h l m e = let same : f ≡ d = (cc) in absurd (omega (arith, g.0.0))
digits_split (f ∷ w) (k ∷ v) c d x y g h l m e =
    let same : f ≡ k = (cc) in
    let rest : w ++ c ∷ x ≡ v ++ d ∷ y = (cc) in
    let r : (w ≡ v) × (c ≡ d) × (x ≡ y) = digits_split w v c d x y g.1 h.1 l m rest in
    let front : f ∷ w ≡ k ∷ v = cc (same, r.0) in
    (front, r.1, r.2)

row_split : (a b : List (List ℕ)) (x y : List ℕ) → 0 < length a → 0 < length b → AllByRecursion IsNumeral a → AllByRecursion IsNumeral b →
    row_text a ++ x ≡ row_text b ++ y → (a ≡ b) × (x ≡ y)
row_split [] b x y m n g h e = absurd (omega (arith, m))
row_split (w ∷ ws) [] x y m n g h e = absurd (omega (arith, n))
row_split (w ∷ []) (v ∷ []) x y m n g h e =
    let r : (w ≡ v) × (◌≡◌ {A = ℕ} 10 10) × (x ≡ y) =
    digits_split w v 10 10 x y (digits_of w g.0) (digits_of v h.0) (omega arith) (omega arith) (sym (append_assoc w (10 ∷ []) x) ∙ e ∙ append_assoc v (10 ∷ []) y) in
    (ap (λ (u : List ℕ). u ∷ []) r.0, r.2)
row_split (w ∷ []) (v ∷ v2 ∷ vs) x y m n g h e =
    let r : (w ≡ v) × (◌≡◌ {A = ℕ} 10 32) × (x ≡ row_text (v2 ∷ vs) ++ y) =
    digits_split w v 10 32 x (row_text (v2 ∷ vs) ++ y) (digits_of w g.0) (digits_of v h.0) (omega arith) (omega arith)
    (sym (append_assoc w (10 ∷ []) x) ∙ e ∙ append_assoc v (32 ∷ row_text (v2 ∷ vs)) y) in
    absurd (omega (arith, r.1))
row_split (w ∷ w2 ∷ ws) (v ∷ []) x y m n g h e =
    let r : (w ≡ v) × (◌≡◌ {A = ℕ} 32 10) × (row_text (w2 ∷ ws) ++ x ≡ y) =
    digits_split w v 32 10 (row_text (w2 ∷ ws) ++ x) y (digits_of w g.0) (digits_of v h.0) (omega arith) (omega arith)
    (sym (append_assoc w (32 ∷ row_text (w2 ∷ ws)) x) ∙ e ∙ append_assoc v (10 ∷ []) y) in
    absurd (omega (arith, r.1))
row_split (w ∷ w2 ∷ ws) (v ∷ v2 ∷ vs) x y m n g h e =
    let r : (w ≡ v) × (◌≡◌ {A = ℕ} 32 32) × (row_text (w2 ∷ ws) ++ x ≡ row_text (v2 ∷ vs) ++ y) =
    digits_split w v 32 32 (row_text (w2 ∷ ws) ++ x) (row_text (v2 ∷ vs) ++ y) (digits_of w g.0) (digits_of v h.0) (omega arith) (omega arith)
    (sym (append_assoc w (32 ∷ row_text (w2 ∷ ws)) x) ∙ e ∙ append_assoc v (32 ∷ row_text (v2 ∷ vs)) y) in
    let s : (w2 ∷ ws ≡ v2 ∷ vs) × (x ≡ y) = row_split (w2 ∷ ws) (v2 ∷ vs) x y (omega arith) (omega arith) g.1 h.1 r.2 in
    let rows : w ∷ w2 ∷ ws ≡ v ∷ v2 ∷ vs = cc (r.0, s.0) in
    (rows, s.1)

some_text : (w : List ℕ) (x : List ℕ) → 0 < length (w ++ 10 ∷ x)
some_text [] x = omega arith
some_text (d ∷ w) x = omega arith

some_row : (a : List (List ℕ)) (x : List ℕ) → [] ≡ row_text a ++ x → ⊥
some_row [] x e = cc
some_row ([] ∷ []) x e = cc
some_row ((d ∷ w) ∷ []) x e = cc
some_row ([] ∷ v ∷ ws) x e = cc
some_row ((d ∷ w) ∷ v ∷ ws) x e = cc

rows_split : (a b : List (List (List ℕ))) → AllByRecursion IsRow a → AllByRecursion IsRow b → flat_map row_text a ≡ flat_map row_text b → a ≡ b
rows_split [] [] g h e = refl
rows_split [] (s ∷ b) g h e = absurd (some_row s (flat_map row_text b) e)
rows_split (r ∷ a) [] g h e = absurd (some_row r (flat_map row_text a) (sym e))
rows_split (r ∷ a) (s ∷ b) g h e =
    let one : (r ≡ s) × (flat_map row_text a ≡ flat_map row_text b) =
    row_split r s (flat_map row_text a) (flat_map row_text b) g.0.some h.0.some g.0.numerals h.0.numerals e in
    let rest : a ≡ b = rows_split a b g.1 h.1 one.1 in
    cc (one.0, rest)

pub unique : ReadingIsUnique
unique = λ text rows others g h. rows_split rows others g.each h.each (sym g.whole ∙ h.whole)
