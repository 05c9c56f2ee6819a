-- What stands between quotes is read from what is written.
use Rattle.std.proofs.Common.{◌≡◌, ℕ, ◌+◌, ◌^◌, ◌%◌, ◌<◌, ◌≤◌, ◌==◌, ◌&&◌, Bool, true, false, min, nat_le, nat_lt, if◌then◌else◌, List, [], ◌∷◌, ◌++◌, All, length, drop, inr, refl, ◌∙◌, ap, append_assoc, arith}
use Rattle.std.specs.Prelude.{codes}
use Rattle.std.specs.Fmt.{decimal}
use Rattle.std.proofs.lemmas.Bool.Decides.{nat_tests}
use Rattle.std.proofs.lemmas.List.{length-append}
use Rattle.std.proofs.lemmas.List.Elements.{All-head}
use Rattle.hunt_table.specs.Text.{output_line, quoted, quoted_byte}
use Rattle.report_lines.specs.Text.{hex}
use Rattle.hunt_table.specs.Reading.{output_bytes, output_line_at, quoted_at, quoted_byte_at}
use Rattle.hunt_table.proofs.Lines.{five}
use Rattle.hunt_table.proofs.Numbers.{hex_at_front, number_again, tail_of}
use Rattle.hunt_table.proofs.Repeats.{AllFrom, many_again, texts}

is_same : (n k : ℕ) → (n == k) ≡ true → k ≡ n
is_same n k e = grind (arith, nat_tests)

plain_again : (b : ℕ) (rest : List ℕ) → (b == 92) ≡ false → quoted_byte_at (b ∷ rest) ≡ (b, rest)
unfolding quoted_byte_at
plain_again b rest e = rw e refl

hex_byte_again : (b : ℕ) (rest : List ℕ) → b < 2 ^ 8 → quoted_byte_at ((codes "\\x" ++ hex 2 b) ++ rest) ≡ (b, rest)
unfolding quoted_byte_at
hex_byte_again b rest small =
    let front = hex_at_front 2 b rest (omega (arith, small)) (omega (arith, small)) in
    let kept : b % 2 ^ 8 ≡ b = omega (arith, small) in
    ap quoted_byte_at (append_assoc (codes "\\x") (hex 2 b) rest)
    ∙ ap (λ (n : ℕ). (n % 2 ^ 8, drop 2 (hex 2 b ++ rest))) front.0
    ∙ ap (λ (t : List ℕ). (b % 2 ^ 8, t)) front.1 ∙ ap (λ (n : ℕ). (n, rest)) kept

printed_by : (b : ℕ) (rest : List ℕ) (t : Bool) → (b == 92) ≡ false → b < 2 ^ 8 → quoted_byte_at ((if t then b ∷ [] else codes "\\x" ++ hex 2 b) ++ rest) ≡ (b, rest)
printed_by b rest true e small = plain_again b rest e
printed_by b rest false e small = hex_byte_again b rest small

feed_by : (b : ℕ) (rest : List ℕ) (t p : Bool) → (b == 10) ≡ t → (b == 92) ≡ false → b < 2 ^ 8 →
    quoted_byte_at ((if t then codes "\\n" else (if p then b ∷ [] else codes "\\x" ++ hex 2 b)) ++ rest) ≡ (b, rest)
unfolding quoted_byte_at
feed_by b rest true p f e small = ap (λ (n : ℕ). (n, rest)) (is_same b 10 f)
feed_by b rest false p f e small = printed_by b rest p e small

slash_by : (b : ℕ) (rest : List ℕ) (s t p : Bool) → (b == 92) ≡ s → (b == 10) ≡ t → b < 2 ^ 8 →
    quoted_byte_at ((if s then codes "\\\\" else (if t then codes "\\n" else (if p then b ∷ [] else codes "\\x" ++ hex 2 b))) ++ rest) ≡ (b, rest)
unfolding quoted_byte_at
slash_by b rest true t p e f small = ap (λ (n : ℕ). (n, rest)) (is_same b 92 e)
slash_by b rest false t p e f small = feed_by b rest t p f e small

quote_by : (b : ℕ) (rest : List ℕ) (q s t p : Bool) → (b == 34) ≡ q → (b == 92) ≡ s → (b == 10) ≡ t → b < 2 ^ 8 →
    quoted_byte_at ((if q then codes "\\\"" else (if s then codes "\\\\" else (if t then codes "\\n" else (if p then b ∷ [] else codes "\\x" ++ hex 2 b)))) ++ rest) ≡ (b, rest)
unfolding quoted_byte_at
quote_by b rest true s t p d e f small = ap (λ (n : ℕ). (n, rest)) (is_same b 34 d)
quote_by b rest false s t p d e f small = slash_by b rest s t p e f small

quoted_byte_again : (b : ℕ) (rest : List ℕ) → b < 2 ^ 8 → quoted_byte_at (quoted_byte b ++ rest) ≡ (b, rest)
unfolding quoted_byte
quoted_byte_again b rest small = quote_by b rest (b == 34) (b == 92) (b == 10) (nat_le 32 b && nat_lt b 127) refl refl refl small

some_by : (b : ℕ) (q s t p : Bool) → 1 ≤ length (if q then codes "\\\"" else (if s then codes "\\\\" else (if t then codes "\\n" else (if p then b ∷ [] else codes "\\x" ++ hex 2 b))))
some_by b true s t p = omega arith
some_by b false true t p = omega arith
some_by b false false true p = omega arith
some_by b false false false true = omega arith
some_by b false false false false = omega (arith, length-append (codes "\\x") (hex 2 b))

some_character : (b : ℕ) → 1 ≤ length (quoted_byte b)
unfolding quoted_byte
some_character b = some_by b (b == 34) (b == 92) (b == 10) (nat_le 32 b && nat_lt b 127)

length-quoted : (bs : List ℕ) → length bs ≤ length (quoted bs)
length-quoted [] = omega arith
length-quoted (b ∷ bs) = omega (arith, length-append (quoted_byte b) (quoted bs), some_character b, length-quoted bs)

-- ---- the line

one_text : ℕ → ℕ → List ℕ
one_text i b = quoted_byte b

IsByte : ℕ → ℕ → Type 0
IsByte i b = b < 2 ^ 8

quoted_texts : (i : ℕ) (bs : List ℕ) → quoted bs ≡ texts one_text i bs
unfolding one_text
quoted_texts i [] = refl
quoted_texts i (b ∷ bs) = ap (λ (t : List ℕ). quoted_byte b ++ t) (quoted_texts (i + 1) bs)

all_bytes : (i : ℕ) (bs : List ℕ) → All (λ b. b < 2 ^ 8) bs → AllFrom IsByte i bs
unfolding IsByte
all_bytes i [] h = tt
all_bytes i (b ∷ bs) h = (All-head (λ (b : ℕ). b < 2 ^ 8) b bs h, all_bytes (i + 1) bs (tail_of (λ (b : ℕ). b < 2 ^ 8) b bs h))

quoted_again : (bs rest : List ℕ) → All (λ b. b < 2 ^ 8) bs → quoted_at (length bs) (quoted bs ++ rest) ≡ (bs, rest)
unfolding one_text IsByte
quoted_again bs rest h =
    ap (λ (t : List ℕ). quoted_at (length bs) (t ++ rest)) (quoted_texts 0 bs)
    ∙ many_again (λ _. true) quoted_byte_at one_text IsByte (λ i b rest k. (refl, quoted_byte_again b rest k)) (length bs) 0 bs rest (omega arith) (inr refl) (all_bytes 0 bs h)

pub output_line_again : (bs rest : List ℕ) → length bs < 2 ^ 64 → All (λ b. b < 2 ^ 8) bs → output_line_at (output_line bs ++ rest) ≡ (bs, rest)
unfolding output_line output_line_at
output_line_again bs rest small h =
    let last : List ℕ = quoted bs ++ 34 ∷ 10 ∷ rest in
    let count : min (length bs) (length (32 ∷ 34 ∷ last)) ≡ length bs = omega (arith, length-append (quoted bs) (34 ∷ 10 ∷ rest), length-quoted bs) in
    ap output_line_at (five (codes "output ") (decimal (length bs)) (codes " \"") (quoted bs) (codes "\"\n") rest)
    ∙ ap (λ (p : ℕ × List ℕ). ((output_bytes p).0, drop 2 (output_bytes p).1)) (number_again (length bs) 32 (34 ∷ last) small refl)
    ∙ ap (λ (n : ℕ). ((quoted_at n last).0, drop 2 (quoted_at n last).1)) count
    ∙ ap (λ (p : List ℕ × List ℕ). (p.0, drop 2 p.1)) (quoted_again bs (34 ∷ 10 ∷ rest) h)
