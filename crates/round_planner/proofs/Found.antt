-- What is read is a plan, and a plan is read.
use Rattle.std.proofs.Common.{◌≡◌, ℕ, suc, ◌<◌, nat_eq, nat_le, nat_lt, if◌then◌else◌, Bool, true, false, ◌&&◌, List, [], ◌∷◌, ◌++◌, length, map, Option, Some, None, refl, sym, ◌∙◌, ap, subst, inl, inr, ◌⊎◌, arith, append_assoc, append-nil}
use Rattle.std.proofs.Math.Dec.{eqb-suc-zero}
use Rattle.std.proofs.lemmas.Bool.{cases_eq}
use Rattle.std.proofs.lemmas.Grind.{flat_map-append}
use Rattle.std.specs.List.{flat_map, AllByRecursion}
use Rattle.round_planner.specs.Grammar.{IsDigit, IsNumeral, IsRow, IsPlanText, row_text}
use Rattle.round_planner.specs.Reading.{Reading, step, read_from, read_on, rows_at_end, some_rows, start}
use Rattle.round_planner.proofs.Told.{Told, Good, IsBegun, TakesDigit, image, consumed, spaced, told, takes_digit, refuses_digit, takes_space, takes_line, other_step, digit_tested, digit_test}

-- ---- what is read is a plan

all-push : {X : Type 0} (P : X → Type 0) (xs : List X) (x : X) → AllByRecursion P xs → P x → AllByRecursion P (xs ++ x ∷ [])
all-push P [] x h p = (p, tt)
all-push P (y ∷ ys) x h p = (h.0, all-push P ys x h.1 p)

spaced-push : (ws : List (List ℕ)) (w : List ℕ) → spaced (ws ++ w ∷ []) ≡ spaced ws ++ (w ++ 32 ∷ [])
spaced-push [] w = refl
spaced-push (v ∷ vs) w = ap (λ (x : List ℕ). v ++ 32 ∷ x) (spaced-push vs w) ∙ sym (append_assoc v (32 ∷ spaced vs) (w ++ 32 ∷ []))

row_text-push : (ws : List (List ℕ)) (w : List ℕ) → row_text (ws ++ w ∷ []) ≡ spaced ws ++ (w ++ 10 ∷ [])
row_text-push [] w = refl
row_text-push (v ∷ []) w = sym (append_assoc v (32 ∷ []) (w ++ 10 ∷ []))
row_text-push (v ∷ u ∷ us) w =
    ap (λ (x : List ℕ). v ++ 32 ∷ x) (row_text-push (u ∷ us) w) ∙ sym (append_assoc v (32 ∷ spaced (u ∷ us)) (w ++ 10 ∷ []))

length_push : {X : Type 0} (xs : List X) (x : X) → 0 < length (xs ++ x ∷ [])
length_push [] x = omega arith
length_push (y ∷ ys) x = omega arith

-- the reading goes on by one byte, or it ends
abbrev Advances : Told → ℕ → Type 0
Advances s b = (step (image s) b ≡ None) ⊎ ((u : Told) × Good u × (step (image s) b ≡ Some (image u)) × (consumed u ≡ consumed s ++ b ∷ []))

more_digits : (w : List ℕ) (d : ℕ) → IsDigit d → IsBegun w → TakesDigit w → IsBegun (w ++ d ∷ [])
more_digits [] d h b t = (h, tt, λ e. refl)
more_digits (e ∷ es) d h b t = (b.0, all-push IsDigit es d b.1 h, λ z. absurd (omega (arith, z, t)))

by_digit : (rows : List (List (List ℕ))) (row : List (List ℕ)) (w : List ℕ) (b : ℕ) → Good (record { rows = rows; row = row; numeral = w }) → IsDigit b → TakesDigit w →
    Advances (record { rows = rows; row = row; numeral = w }) b
by_digit rows row w b g d t =
    let s : Told = record { rows = rows; row = row; numeral = w } in
    inr (
      record s { numeral = w ++ b ∷ [] },
      record { rows = g.rows; row = g.row; numeral = more_digits w b d g.numeral t },
      takes_digit s b d t,
      sym (append_assoc (flat_map row_text rows) (spaced row ++ w) (b ∷ []) ∙ ap (λ (x : List ℕ). flat_map row_text rows ++ x) (append_assoc (spaced row) w (b ∷ []))),
    )

digit_advances : (rows : List (List (List ℕ))) (row : List (List ℕ)) (w : List ℕ) (b : ℕ) → Good (record { rows = rows; row = row; numeral = w }) → IsDigit b →
    Advances (record { rows = rows; row = row; numeral = w }) b
digit_advances rows row [] b g d = by_digit rows row [] b g d tt
digit_advances rows row (e ∷ es) b g d = elim (cases_eq e 48) [
  | inl z ↦ inl (refuses_digit (record { rows = rows; row = row; numeral = e ∷ es }) b d (first e es z (g.numeral.2 z)))
  | inr z ↦ by_digit rows row (e ∷ es) b g d (omega (arith, g.numeral.0.0, z))
]
  where
    first : (e : ℕ) (es : List ℕ) → e ≡ 48 → es ≡ [] → e ∷ es ≡ 48 ∷ []
    first e es z n = cc

space_advances : (rows : List (List (List ℕ))) (row : List (List ℕ)) (w : List ℕ) → Good (record { rows = rows; row = row; numeral = w }) →
    Advances (record { rows = rows; row = row; numeral = w }) 32
unfolding step
space_advances rows row [] g = inl refl
space_advances rows row (e ∷ es) g =
    inr (
      record { rows = rows; row = row ++ (e ∷ es) ∷ []; numeral = [] },
      record { rows = g.rows; row = all-push IsNumeral row (e ∷ es) g.row g.numeral; numeral = tt },
      takes_space rows row (e ∷ es) (omega arith),
      ap (λ (x : List ℕ). flat_map row_text rows ++ x) (append-nil (spaced (row ++ (e ∷ es) ∷ [])) ∙ spaced-push row (e ∷ es) ∙ sym (append_assoc (spaced row) (e ∷ es) (32 ∷ [])))
          ∙ sym (append_assoc (flat_map row_text rows) (spaced row ++ (e ∷ es)) (32 ∷ [])),
    )

line_advances : (rows : List (List (List ℕ))) (row : List (List ℕ)) (w : List ℕ) → Good (record { rows = rows; row = row; numeral = w }) →
    Advances (record { rows = rows; row = row; numeral = w }) 10
unfolding step
line_advances rows row [] g = inl refl
line_advances rows row (e ∷ es) g =
    let whole : List (List ℕ) = row ++ (e ∷ es) ∷ [] in
    inr (
      record { rows = rows ++ whole ∷ []; row = []; numeral = [] },
      record { rows = all-push IsRow rows whole g.rows (record { some = length_push row (e ∷ es); numerals = all-push IsNumeral row (e ∷ es) g.row g.numeral }); row = tt; numeral = tt },
      takes_line rows row (e ∷ es) (omega arith),
      append-nil (flat_map row_text (rows ++ whole ∷ [])) ∙ flat_map-append row_text rows (whole ∷ []) ∙ ap (λ (x : List ℕ). flat_map row_text rows ++ x) (append-nil (row_text whole) ∙ row_text-push row (e ∷ es) ∙ sym (append_assoc (spaced row) (e ∷ es) (10 ∷ [])))
          ∙ sym (append_assoc (flat_map row_text rows) (spaced row ++ (e ∷ es)) (10 ∷ [])),
    )

by_test : (s : Told) (b : ℕ) (t : Bool) → Good s → (nat_le 48 b && nat_lt b 58) ≡ t → Advances s b
by_test s b true g e = digit_advances s.rows s.row s.numeral b g (digit_tested b e)
by_test s b false g e = elim (cases_eq b 32) [
  | inl z ↦ subst (Advances s) (sym z) (space_advances s.rows s.row s.numeral g)
  | inr n ↦ elim (cases_eq b 10) [
    | inl z ↦ subst (Advances s) (sym z) (line_advances s.rows s.row s.numeral g)
    | inr m ↦ inl (other_step (image s) b (λ d. cc (sym e ∙ digit_test b d)) n m)
  ]
]

-- the text has a reading, and these are its numbers as they are told
abbrev pub Found : List ℕ → List (List ℕ) → Type 0
Found text out = (rows : List (List (List ℕ))) × IsPlanText text rows × (out ≡ map (map told) rows)

unfinished : (n : ℕ) (x : Option (List (List ℕ))) → (if true && nat_eq (suc n) 0 then x else None) ≡ None
unfinished n x = rw eqb-suc-zero refl

found_end : (rows : List (List (List ℕ))) (row : List (List ℕ)) (w : List ℕ) (out : List (List ℕ)) → Good (record { rows = rows; row = row; numeral = w }) →
    rows_at_end (image (record { rows = rows; row = row; numeral = w })) ≡ Some out → Found (consumed (record { rows = rows; row = row; numeral = w }) ++ []) out
found_end [] [] [] out g e = cc
found_end (r ∷ rs) [] [] out g e =
    let same : out ≡ map (map told) (r ∷ rs) = (cc) in
    (r ∷ rs, record { whole = append-nil (flat_map row_text (r ∷ rs) ++ []) ∙ append-nil (flat_map row_text (r ∷ rs)); some = omega arith; each = g.rows }, same)
found_end rows (v ∷ vs) [] out g e = cc (sym e ∙ unfinished (length (map told vs)) (some_rows (map (map told) rows)))
found_end rows row (d ∷ ds) out g e = cc

found_from : (t : List ℕ) (s : Told) (out : List (List ℕ)) → Good s → read_from (image s) t ≡ Some out → Found (consumed s ++ t) out
found_from [] s out g e = found_end s.rows s.row s.numeral out g e
found_from (b ∷ bs) s out g e = elim (by_test s b (nat_le 48 b && nat_lt b 58) g refl) [
  | inl z ↦ cc (sym e ∙ ap (λ (o : Option Reading). read_on o (λ u. read_from u bs)) z)
  | inr h ↦
      subst (λ (x : List ℕ). Found x out) (ap (λ (x : List ℕ). x ++ bs) h.3 ∙ append_assoc (consumed s) (b ∷ []) bs)
      (found_from bs h.0 out h.1 (sym (ap (λ (o : Option Reading). read_on o (λ u. read_from u bs)) h.2) ∙ e))
]

pub found : (text : List ℕ) (out : List (List ℕ)) → read_from start text ≡ Some out → Found text out
found text out e = found_from text (record { rows = []; row = []; numeral = [] }) out (record { rows = tt; row = tt; numeral = tt }) e

-- ---- a plan is read

digits_read : (ds rest : List ℕ) (rows : List (List (List ℕ))) (row : List (List ℕ)) (e : ℕ) (es : List ℕ) → 48 < e → AllByRecursion IsDigit ds →
    read_from (image (record { rows = rows; row = row; numeral = e ∷ es })) (ds ++ rest) ≡ read_from (image (record { rows = rows; row = row; numeral = (e ∷ es) ++ ds })) rest
digits_read [] rest rows row e es h a = ap (λ (w : List ℕ). read_from (image (record { rows = rows; row = row; numeral = w })) rest) (sym (append-nil (e ∷ es)))
digits_read (d ∷ ds) rest rows row e es h a =
    ap (λ (o : Option Reading). read_on o (λ u. read_from u (ds ++ rest))) (takes_digit (record { rows = rows; row = row; numeral = e ∷ es }) d a.0 h)
    ∙ digits_read ds rest rows row e (es ++ d ∷ []) h a.1
    ∙ ap (λ (w : List ℕ). read_from (image (record { rows = rows; row = row; numeral = w })) rest) (append_assoc (e ∷ es) (d ∷ []) ds)

numeral_read : (w rest : List ℕ) (rows : List (List (List ℕ))) (row : List (List ℕ)) → IsNumeral w →
    read_from (image (record { rows = rows; row = row; numeral = [] })) (w ++ rest) ≡ read_from (image (record { rows = rows; row = row; numeral = w })) rest
numeral_read [] rest rows row h = absurd h
numeral_read (d ∷ ds) rest rows row h =
    ap (λ (o : Option Reading). read_on o (λ u. read_from u (ds ++ rest))) (takes_digit (record { rows = rows; row = row; numeral = [] }) d h.0 tt)
    ∙ elim (cases_eq d 48) [
      | inl z ↦ short d ds z (h.2 z)
      | inr z ↦ digits_read ds rest rows row d [] (omega (arith, h.0.0, z)) h.1
    ]
  where
    short : (d : ℕ) (ds : List ℕ) → d ≡ 48 → ds ≡ [] →
        read_from (image (record { rows = rows; row = row; numeral = d ∷ [] })) (ds ++ rest) ≡ read_from (image (record { rows = rows; row = row; numeral = d ∷ ds })) rest
    short d ds z n = ap (λ (w : List ℕ). read_from (image (record { rows = rows; row = row; numeral = d ∷ [] })) (w ++ rest)) n
        ∙ ap (λ (w : List ℕ). read_from (image (record { rows = rows; row = row; numeral = d ∷ w })) rest) (sym n)

some_numeral : (w : List ℕ) → IsNumeral w → 0 < length w
some_numeral [] h = absurd h
some_numeral (d ∷ ds) h = omega arith

row_read : (ws : List (List ℕ)) (rest : List ℕ) (rows : List (List (List ℕ))) (row : List (List ℕ)) → 0 < length ws → AllByRecursion IsNumeral ws →
    read_from (image (record { rows = rows; row = row; numeral = [] })) (row_text ws ++ rest) ≡ read_from (image (record { rows = rows ++ (row ++ ws) ∷ []; row = []; numeral = [] })) rest
row_read [] rest rows row h a = absurd (omega (arith, h))
row_read (w ∷ []) rest rows row h a =
    ap (read_from (image (record { rows = rows; row = row; numeral = [] }))) (append_assoc w (10 ∷ []) rest)
    ∙ numeral_read w (10 ∷ rest) rows row a.0
    ∙ ap (λ (o : Option Reading). read_on o (λ u. read_from u rest)) (takes_line rows row w (some_numeral w a.0))
row_read (w ∷ v ∷ ws) rest rows row h a =
    ap (read_from (image (record { rows = rows; row = row; numeral = [] }))) (append_assoc w (32 ∷ row_text (v ∷ ws)) rest)
    ∙ numeral_read w (32 ∷ (row_text (v ∷ ws) ++ rest)) rows row a.0
    ∙ ap (λ (o : Option Reading). read_on o (λ u. read_from u (row_text (v ∷ ws) ++ rest))) (takes_space rows row w (some_numeral w a.0))
    ∙ row_read (v ∷ ws) rest rows (row ++ w ∷ []) (omega arith) a.1
    ∙ ap (λ (r : List (List ℕ)). read_from (image (record { rows = rows ++ r ∷ []; row = []; numeral = [] })) rest) (append_assoc row (w ∷ []) (v ∷ ws))

rows_read : (rs done : List (List (List ℕ))) → AllByRecursion IsRow rs →
    read_from (image (record { rows = done; row = []; numeral = [] })) (flat_map row_text rs) ≡ some_rows (map (map told) (done ++ rs))
rows_read [] done a = ap (λ (r : List (List (List ℕ))). some_rows (map (map told) r)) (sym (append-nil done))
rows_read (r ∷ rs) done a =
    row_read r (flat_map row_text rs) done [] a.0.some a.0.numerals ∙ rows_read rs (done ++ r ∷ []) a.1
    ∙ ap (λ (x : List (List (List ℕ))). some_rows (map (map told) x)) (append_assoc done (r ∷ []) rs)

some_read : (rs : List (List (List ℕ))) → 0 < length rs → some_rows (map (map told) rs) ≡ Some (map (map told) rs)
some_read [] h = absurd (omega (arith, h))
some_read (r ∷ rs) h = refl

pub given : (text : List ℕ) (rows : List (List (List ℕ))) → IsPlanText text rows → read_from start text ≡ Some (map (map told) rows)
given text rows h = ap (read_from start) h.whole ∙ rows_read rows [] h.each ∙ some_read rows h.some
