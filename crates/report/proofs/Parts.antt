-- Rows of output, events and harts one after another.
use Rattle.std.proofs.Common.{◌≡◌, ℕ, zero, suc, ◌+◌, ◌*◌, ◌-◌, ◌<◌, List, [], ◌∷◌, ◌++◌, length, get_or, take, drop, codes, refl, sym, ap, ◌∙◌, arith, append_assoc, append-nil}
use Rattle.std.proofs.lemmas.List.{take-append-drop, drop-drop, take_more, length-take-le, length-drop, take_all}
use Rattle.round_schedule.specs.declared.event.Event.{Event}
use Rattle.hart_step.specs.declared.hart.Hart.{Hart}
use Rattle.report.specs.Report.{output_rows, events_text, harts_text}
use Rattle.report_lines.specs.Text.{bytes_text, event_text, hart_text}

pub output_none : (bs : List ℕ) → output_rows bs 0 ≡ []
unfolding output_rows
output_none bs = refl

-- one row of output more
pub output_more : (m : ℕ) (bs : List ℕ) → output_rows bs (m + 1) ≡ output_rows bs m ++ (bytes_text (take 32 (drop (32 * m) bs)) ++ codes "\n")
unfolding output_rows
output_more zero bs =
    let all : 32 * zero ≡ zero = omega arith in
    append-nil (bytes_text (take 32 bs) ++ codes "\n") ∙ sym (ap (λ (k : ℕ). bytes_text (take 32 (drop k bs)) ++ codes "\n") all)
output_more (suc m) bs =
    let next : suc m + 1 ≡ suc (m + 1) = omega arith in
    let far : 32 + 32 * m ≡ 32 * suc m = omega arith in
    let row = bytes_text (take 32 bs) ++ codes "\n" in
    ap (output_rows bs) next
    ∙ ap (λ (z : List ℕ). row ++ z) (output_more m (drop 32 bs))
    ∙ sym (append_assoc row (output_rows (drop 32 bs) m) (bytes_text (take 32 (drop (32 * m) (drop 32 bs))) ++ codes "\n"))
    ∙ ap (λ (z : List ℕ). output_rows bs (suc m) ++ (bytes_text (take 32 z) ++ codes "\n")) (drop-drop (32 * m) 32 bs ∙ ap (λ (k : ℕ). drop k bs) far)

pub events-append : (xs ys : List Event) → events_text (xs ++ ys) ≡ events_text xs ++ events_text ys
events-append [] ys = refl
events-append (x ∷ xs) ys = ap (λ (z : List ℕ). event_text x ++ z) (events-append xs ys) ∙ sym (append_assoc (event_text x) (events_text xs) (events_text ys))

harts-append : (xs ys : List Hart) (k : ℕ) → harts_text k (xs ++ ys) ≡ harts_text k xs ++ harts_text (k + length xs) ys
harts-append [] ys k = let none : k ≡ k + 0 = omega arith in ap (λ (n : ℕ). harts_text n ys) none
harts-append (x ∷ xs) ys k =
    let next : k + 1 + length xs ≡ k + suc (length xs) = omega arith in
    ap (λ (z : List ℕ). hart_text k x ++ z) (harts-append xs ys (k + 1)) ∙ sym (append_assoc (hart_text k x) (harts_text (k + 1) xs) (harts_text (k + 1 + length xs) ys))
    ∙ ap (λ (n : ℕ). harts_text k (x ∷ xs) ++ harts_text n ys) next

pub harts_more : (xs : List Hart) (i : ℕ) (h : Hart) → i < length xs → h ≡ get_or xs i h → harts_text 0 (take (i + 1) xs) ≡ harts_text 0 (take i xs) ++ hart_text i h
harts_more xs i h l q =
    let place : 0 + length (take i xs) ≡ i = omega (arith, length-take-le i xs (omega arith)) in
    ap (harts_text 0) (take_more xs i h l) ∙ harts-append (take i xs) (get_or xs i h ∷ []) 0
    ∙ ap (λ (n : ℕ). harts_text 0 (take i xs) ++ harts_text n (get_or xs i h ∷ [])) place
    ∙ ap (λ (z : List ℕ). harts_text 0 (take i xs) ++ z) (append-nil (hart_text i (get_or xs i h)))
    ∙ ap (λ (z : Hart). harts_text 0 (take i xs) ++ hart_text i z) (sym q)

-- the rest of a loop's text

pub harts_left : (xs : List Hart) (i : ℕ) (h : Hart) → i < length xs → h ≡ get_or xs i h → harts_text 0 xs ≡ (harts_text 0 (take i xs) ++ hart_text i h) ++ harts_text (0 + length (take (i + 1) xs)) (drop (i + 1) xs)
harts_left xs i h l q =
    ap (harts_text 0) (sym (take-append-drop (i + 1) xs)) ∙ harts-append (take (i + 1) xs) (drop (i + 1) xs) 0 ∙ ap (λ (z : List ℕ). z ++ harts_text (0 + length (take (i + 1) xs)) (drop (i + 1) xs)) (harts_more xs i h l q)

output-add : (m n : ℕ) (bs : List ℕ) → output_rows bs (m + n) ≡ output_rows bs m ++ output_rows (drop (32 * m) bs) n
unfolding output_rows
output-add zero n bs =
    let none : zero + n ≡ n = omega arith in
    let all : 32 * zero ≡ zero = omega arith in
    ap (output_rows bs) none ∙ sym (ap (λ (k : ℕ). output_rows (drop k bs) n) all)
output-add (suc m) n bs =
    let next : suc m + n ≡ suc (m + n) = omega arith in
    let far : 32 + 32 * m ≡ 32 * suc m = omega arith in
    let row = bytes_text (take 32 bs) ++ codes "\n" in
    ap (output_rows bs) next
    ∙ ap (λ (z : List ℕ). row ++ z) (output-add m n (drop 32 bs))
    ∙ sym (append_assoc row (output_rows (drop 32 bs) m) (output_rows (drop (32 * m) (drop 32 bs)) n))
    ∙ ap (λ (z : List ℕ). output_rows bs (suc m) ++ output_rows z n) (drop-drop (32 * m) 32 bs ∙ ap (λ (k : ℕ). drop k bs) far)

pub output_left : (m n : ℕ) (bs : List ℕ) → m < n → output_rows bs n ≡ (output_rows bs m ++ (bytes_text (take 32 (drop (32 * m) bs)) ++ codes "\n")) ++ output_rows (drop (32 * (m + 1)) bs) (n - (m + 1))
output_left m n bs l =
    let all : n ≡ m + 1 + (n - (m + 1)) = omega arith in
    ap (output_rows bs) all ∙ output-add (m + 1) (n - (m + 1)) bs ∙ ap (λ (z : List ℕ). z ++ output_rows (drop (32 * (m + 1)) bs) (n - (m + 1))) (output_more m bs)

pub last_part : (bs : List ℕ) (k : ℕ) → take (length bs - k) (drop k bs) ≡ drop k bs
last_part bs k = take_all (length bs - k) (drop k bs) (omega (arith, length-drop k bs))

pub row_text : (bs : List ℕ) (k : ℕ) → bytes_text (take 32 (take (length bs - k) (drop k bs))) ++ codes "\n" ≡ bytes_text (take 32 (drop k bs)) ++ codes "\n"
row_text bs k = ap (λ (z : List ℕ). bytes_text (take 32 z) ++ codes "\n") (last_part bs k)
