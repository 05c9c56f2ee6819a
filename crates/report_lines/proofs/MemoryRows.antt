-- Bytes and rows of memory one after another.
use Rattle.std.proofs.Common.{◌≡◌, ℕ, zero, suc, ◌+◌, ◌*◌, ◌-◌, ◌<◌, ◌≤◌, List, [], ◌∷◌, ◌++◌, length, get_or, take, drop, replicate, refl, sym, ap, ◌∙◌, arith, append_assoc, append-nil}
use Rattle.std.proofs.lemmas.List.{take-take, drop-take, drop-drop, take-replicate, drop-replicate, take_more, length-take-le, length-drop}
use Rattle.pages.specs.Flat.{blank, page_bytes}
use Rattle.report_lines.specs.Rows.{memory_row, memory_rows}
use Rattle.report_lines.specs.Text.{bytes_text, hex}

bytes-append : (xs ys : List ℕ) → bytes_text (xs ++ ys) ≡ bytes_text xs ++ bytes_text ys
bytes-append [] ys = refl
bytes-append (x ∷ xs) ys = ap (λ (z : List ℕ). hex 2 x ++ z) (bytes-append xs ys) ∙ sym (append_assoc (hex 2 x) (bytes_text xs) (bytes_text ys))

-- one byte more
pub bytes_more : (xs : List ℕ) (i : ℕ) (b : ℕ) → i < length xs → b ≡ get_or xs i 0 → bytes_text (take (i + 1) xs) ≡ bytes_text (take i xs) ++ hex 2 b
bytes_more xs i b l e =
    ap bytes_text (take_more xs i 0 l) ∙ bytes-append (take i xs) (get_or xs i 0 ∷ []) ∙ ap (λ (z : List ℕ). bytes_text (take i xs) ++ z) (append-nil (hex 2 (get_or xs i 0)))
    ∙ ap (λ (z : ℕ). bytes_text (take i xs) ++ hex 2 z) (sym e)

pub rows-add : (m n a : ℕ) (bs : List ℕ) → memory_rows a bs (m + n) ≡ memory_rows a bs m ++ memory_rows (a + 16 * m) (drop (16 * m) bs) n
unfolding memory_rows
rows-add zero n a bs =
    let none : zero + n ≡ n = omega arith in
    let here : a + 16 * zero ≡ a = omega arith in
    let all : 16 * zero ≡ zero = omega arith in
    ap (memory_rows a bs) none ∙ sym (ap (λ (k : ℕ). memory_rows k (drop (16 * zero) bs) n) here ∙ ap (λ (k : ℕ). memory_rows a (drop k bs) n) all)
rows-add (suc m) n a bs =
    let next : suc m + n ≡ suc (m + n) = omega arith in
    let row = memory_row a (take 16 bs) in
    let here : a + 16 + 16 * m ≡ a + 16 * suc m = omega arith in
    let far : 16 + 16 * m ≡ 16 * suc m = omega arith in
    ap (memory_rows a bs) next
    ∙ ap (λ (z : List ℕ). row ++ z) (rows-add m n (a + 16) (drop 16 bs))
    ∙ sym (append_assoc row (memory_rows (a + 16) (drop 16 bs) m) (memory_rows (a + 16 + 16 * m) (drop (16 * m) (drop 16 bs)) n))
    ∙ ap (λ (k : ℕ). memory_rows a bs (suc m) ++ memory_rows k (drop (16 * m) (drop 16 bs)) n) here
    ∙ ap (λ (z : List ℕ). memory_rows a bs (suc m) ++ memory_rows (a + 16 * suc m) z n) (drop-drop (16 * m) 16 bs ∙ ap (λ (k : ℕ). drop k bs) far)

one_row : (a : ℕ) (bs : List ℕ) → memory_rows a bs 1 ≡ memory_row a (take 16 bs)
unfolding memory_rows
one_row a bs = append-nil (memory_row a (take 16 bs))

-- one row more
pub rows_more : (m a : ℕ) (bs : List ℕ) → memory_rows a bs (m + 1) ≡ memory_rows a bs m ++ memory_row (a + 16 * m) (take 16 (drop (16 * m) bs))
rows_more m a bs = rows-add m 1 a bs ∙ ap (λ (z : List ℕ). memory_rows a bs m ++ z) (one_row (a + 16 * m) (drop (16 * m) bs))

pub no_rows : (a : ℕ) (bs : List ℕ) → memory_rows a bs 0 ≡ []
unfolding memory_rows
no_rows a bs = refl

pub rows-take : (n a : ℕ) (bs : List ℕ) → memory_rows a (take (16 * n) bs) n ≡ memory_rows a bs n
unfolding memory_rows
rows-take zero a bs = refl
rows-take (suc n) a bs =
    let far : 16 * suc n ≡ 16 + 16 * n = omega arith in
    let enough : 16 ≤ 16 * suc n = omega arith in
    ap (λ (z : List ℕ). memory_row a z ++ memory_rows (a + 16) (drop 16 (take (16 * suc n) bs)) n) (take-take 16 (16 * suc n) bs enough)
    ∙ ap (λ (z : List ℕ). memory_row a (take 16 bs) ++ memory_rows (a + 16) z n) (ap (λ (k : ℕ). drop 16 (take k bs)) far ∙ drop-take 16 (16 * n) bs)
    ∙ ap (λ (z : List ℕ). memory_row a (take 16 bs) ++ z) (rows-take n (a + 16) (drop 16 bs))

zero_row : (a : ℕ) → memory_row a (replicate 16 0) ≡ []
unfolding memory_row
zero_row a = refl

zero_rows : (n a : ℕ) → memory_rows a (replicate (16 * n) 0) n ≡ []
unfolding memory_rows
zero_rows zero a = refl
zero_rows (suc n) a =
    let enough : 16 ≤ 16 * suc n = omega arith in
    let left : 16 * suc n - 16 ≡ 16 * n = omega arith in
    ap (λ (z : List ℕ). memory_row a z ++ memory_rows (a + 16) (drop 16 (replicate (16 * suc n) 0)) n) (take-replicate 16 (16 * suc n) 0 enough)
    ∙ ap (λ (z : List ℕ). z ++ memory_rows (a + 16) (drop 16 (replicate (16 * suc n) 0)) n) (zero_row a)
    ∙ ap (λ (z : List ℕ). memory_rows (a + 16) z n) (drop-replicate 16 (16 * suc n) 0 ∙ ap (λ (k : ℕ). replicate k 0) left)
    ∙ zero_rows n (a + 16)

-- a page that nothing was written to has no row
pub blank_page : (a : ℕ) → memory_rows a blank 256 ≡ []
unfolding blank
blank_page a = zero_rows 256 a

-- the rows of one page more
pub page_more : (p : ℕ) (bs : List ℕ) → memory_rows 0 bs (256 * (p + 1)) ≡ memory_rows 0 bs (256 * p) ++ memory_rows (4096 * p) (page_bytes bs p) 256
unfolding page_bytes
page_more p bs =
    let split : 256 * (p + 1) ≡ 256 * p + 256 = omega arith in
    let here : 0 + 16 * (256 * p) ≡ 4096 * p = omega arith in
    let far : 16 * (256 * p) ≡ 4096 * p = omega arith in
    ap (memory_rows 0 bs) split ∙ rows-add (256 * p) 256 0 bs
    ∙ ap (λ (k : ℕ). memory_rows 0 bs (256 * p) ++ memory_rows k (drop (16 * (256 * p)) bs) 256) here
    ∙ ap (λ (k : ℕ). memory_rows 0 bs (256 * p) ++ memory_rows (4096 * p) (drop k bs) 256) far
    ∙ ap (λ (z : List ℕ). memory_rows 0 bs (256 * p) ++ z) (sym (rows-take 256 (4096 * p) (drop (4096 * p) bs)))

pub pages_left : (p n : ℕ) (bs : List ℕ) → p < n → memory_rows 0 bs (256 * n) ≡ (memory_rows 0 bs (256 * p) ++ memory_rows (4096 * p) (page_bytes bs p) 256) ++ memory_rows (0 + 16 * (256 * (p + 1))) (drop (16 * (256 * (p + 1))) bs) (256 * n - 256 * (p + 1))
pages_left p n bs l =
    let all : 256 * n ≡ 256 * (p + 1) + (256 * n - 256 * (p + 1)) = omega arith in
    ap (memory_rows 0 bs) all ∙ rows-add (256 * (p + 1)) (256 * n - 256 * (p + 1)) 0 bs
    ∙ ap (λ (z : List ℕ). z ++ memory_rows (0 + 16 * (256 * (p + 1))) (drop (16 * (256 * (p + 1))) bs) (256 * n - 256 * (p + 1))) (page_more p bs)

pub length-page : (bs : List ℕ) (p : ℕ) → 4096 * p + 4096 ≤ length bs → length (page_bytes bs p) ≡ 4096
unfolding page_bytes
length-page bs p h = length-take-le 4096 (drop (4096 * p) bs) (omega (arith, length-drop (4096 * p) bs))
