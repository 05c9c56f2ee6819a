-- Bytes, written as two digits each, and the line of 16 of them.
use Rattle.std.proofs.Common.{◌≡◌, ℕ, zero, suc, ◌+◌, ◌*◌, ◌/◌, ◌%◌, ◌<◌, List, [], ◌∷◌, ◌++◌, codes, length, get_or, take, drop, set, refl, sym, ap, ◌∙◌, append_assoc, arith}
use Rattle.std.proofs.Math.Seq.{take-append_seam}
use Rattle.std.proofs.lemmas.List.{length-append, length-set, length-drop, length-take-le, take_all, take_more_set}
use Rattle.std.proofs.lemmas.Slice.{take-put_mid}
use borrow.Rule.Slice.PartMut.{put_mid}
use Rattle.report_lines.specs.Text.{bytes_text, hex, hex_digit}
use Rattle.report_lines.proofs.MemoryRows.{bytes_more}

two_digits : (b : ℕ) → hex 2 b ≡ hex_digit (b / 16 % 16) ∷ hex_digit (b % 16) ∷ []
unfolding hex
two_digits b = refl

-- the digits of one byte more are written
pub pair_more : (bs room : List ℕ) (i high low : ℕ) → i < length bs → length room ≡ 2 * length bs → get_or bs i 0 < 256 →
    high ≡ hex_digit (get_or bs i 0 / 16) → low ≡ hex_digit (get_or bs i 0 % 16) → take (2 * i) room ≡ bytes_text (take i bs) →
    take (2 * (i + 1)) (set (set room (2 * i) high) (2 * i + 1) low) ≡ bytes_text (take (i + 1) bs)
pair_more bs room i high low within size fits h l so =
    let b = get_or bs i 0 in
    let one = set room (2 * i) high in
    let next : 2 * (i + 1) ≡ 2 * i + 1 + 1 = omega arith in
    let sixteens : b / 16 ≡ b / 16 % 16 = omega arith in
    ap (λ (n : ℕ). take n (set one (2 * i + 1) low)) next
    ∙ take_more_set one (2 * i + 1) low (omega (arith, length-set room (2 * i) high))
    ∙ ap (λ (z : List ℕ). z ++ low ∷ []) (take_more_set room (2 * i) high (omega arith))
    ∙ append_assoc (take (2 * i) room) (high ∷ []) (low ∷ [])
    ∙ ap (λ (z : List ℕ). z ++ high ∷ low ∷ []) so
    ∙ ap (λ (d : ℕ). bytes_text (take i bs) ++ d ∷ low ∷ []) (h ∙ ap hex_digit sixteens)
    ∙ ap (λ (d : ℕ). bytes_text (take i bs) ++ hex_digit (b / 16 % 16) ∷ d ∷ []) l
    ∙ ap (λ (z : List ℕ). bytes_text (take i bs) ++ z) (sym (two_digits b))
    ∙ sym (bytes_more bs i b within refl)

pub length-hex : (n v : ℕ) → length (hex n v) ≡ n
unfolding hex
length-hex zero v = refl
length-hex (suc n) v = length-append (hex n (v / 16)) (hex_digit (v % 16) ∷ []) ∙ omega (arith, length-hex n (v / 16))

pub length-bytes_text : (bs : List ℕ) → length (bytes_text bs) ≡ 2 * length bs
length-bytes_text [] = refl
length-bytes_text (b ∷ bs) = length-append (hex 2 b) (bytes_text bs) ∙ omega (arith, length-hex 2 b, length-bytes_text bs)

-- the line of 16 bytes is written
pub row_written : (room address digits : List ℕ) → length room ≡ 42 → length address ≡ 8 → length digits ≡ 32 →
    set (put_mid 9 32 (set (address ++ drop 8 room) 8 32) digits) 41 10 ≡ address ++ codes " " ++ digits ++ codes "\n"
row_written room address digits size eight many =
    let before = set (address ++ drop 8 room) 8 32 in
    let long : length before ≡ 42 = length-set (address ++ drop 8 room) 8 32 ∙ length-append address (drop 8 room) ∙ omega (arith, length-drop 8 room) in
    let after = put_mid 9 32 before digits in
    let whole : length after ≡ 42 =
    length-append (take 9 before) (digits ++ drop 32 (drop 9 before)) ∙ omega (arith, length-take-le 9 before (omega arith), length-append digits (drop 32 (drop 9 before)), length-drop 32 (drop 9 before), length-drop 9 before) in
    let start : take 9 before ≡ address ++ codes " " =
    take_more_set (address ++ drop 8 room) 8 32 (omega (arith, length-append address (drop 8 room), length-drop 8 room))
    ∙ ap (λ (z : List ℕ). z ++ codes " ") (ap (λ (n : ℕ). take n (address ++ drop 8 room)) (sym eight) ∙ take-append_seam address (drop 8 room)) in
    sym (take_all 42 (set after 41 10) (omega (arith, length-set after 41 10)))
    ∙ take_more_set after 41 10 (omega arith)
    ∙ ap (λ (z : List ℕ). z ++ codes "\n") (take-put_mid 9 32 before digits 41 (omega arith) (omega arith) ∙ ap (λ (z : List ℕ). z ++ digits) start)
