-- Numbers and bytes are read from what is written.
use Rattle.std.proofs.Common.{◌≡◌, ℕ, zero, suc, ◌+◌, ◌-◌, ◌*◌, ◌/◌, ◌%◌, ◌^◌, ◌<◌, ◌≤◌, ◌&&◌, Bool, true, false, min, nat_le, if◌then◌else◌, List, [], ◌∷◌, ◌++◌, All, length, take, drop, refl, ◌∙◌, ap, append_assoc, arith}
use Rattle.std.specs.Fmt.{decimal}
use Rattle.std.proofs.lemmas.Bool.Decides.{nat_tests}
use Rattle.std.proofs.lemmas.Fmt.{decimal_by_steps}
use Rattle.std.proofs.lemmas.List.{drop_at, length-append, take_at}
use Rattle.std.proofs.lemmas.List.Elements.{All-head}
use Rattle.std.proofs.lemmas.List.Sums.{fold_push}
use Rattle.report_lines.specs.Text.{bytes_text, hex, hex_digit}
use Rattle.hunt_table.specs.Reading.{bytes_at, digit_value, hex_value, number_after, number_at, with_digit, with_hex_digit, word_at}

-- ---- decimal numbers

digit_step : (m d : ℕ) (rest : List ℕ) → d < 10 → m * 10 + d < 2 ^ 64 → number_after m ((48 + d) ∷ rest) ≡ number_after (m * 10 + d) rest
digit_step m d rest low small =
    let test : (nat_le 48 (48 + d) && nat_le (48 + d) 57) ≡ true = grind (arith, nat_tests) in
    let value : with_digit m (48 + d - 48) ≡ m * 10 + d = omega arith in
    ap (λ (b : Bool). if b then number_after (with_digit m (48 + d - 48)) rest else (m, (48 + d) ∷ rest)) test ∙ ap (λ (k : ℕ). number_after k rest) value

Reads : ℕ → List ℕ → Type 0
Reads n ds = n < 2 ^ 64 → (rest : List ℕ) → number_after 0 (ds ++ rest) ≡ number_after n rest

reads_one : (n : ℕ) → n < 10 → Reads n ((48 + n) ∷ [])
unfolding Reads
reads_one n low small rest = digit_step 0 n rest low (omega (arith, small)) ∙ ap (λ (k : ℕ). number_after k rest) (nothing_before n)
  where
    nothing_before : (n : ℕ) → 0 * 10 + n ≡ n
    nothing_before n = omega arith

reads_more : (n : ℕ) (ds : List ℕ) → 10 ≤ n → Reads (n / 10) ds → Reads n (ds ++ ((48 + n % 10) ∷ []))
unfolding Reads
reads_more n ds high h small rest =
    let low : n % 10 < 10 = omega arith in
    let whole : n / 10 * 10 + n % 10 ≡ n = omega arith in
    ap (number_after 0) (append_assoc ds ((48 + n % 10) ∷ []) rest) ∙ h (omega (arith, small, whole)) ((48 + n % 10) ∷ rest)
    ∙ digit_step (n / 10) (n % 10) rest low (omega (arith, small, whole)) ∙ ap (λ (k : ℕ). number_after k rest) whole

-- no digit follows
pub number_again : (n b : ℕ) (rest : List ℕ) → n < 2 ^ 64 → (nat_le 48 b && nat_le b 57) ≡ false → number_at (decimal n ++ b ∷ rest) ≡ (n, b ∷ rest)
unfolding Reads number_at
number_again n b rest small other =
    decimal_by_steps Reads reads_one reads_more n small small (b ∷ rest)
    ∙ ap (λ (t : Bool). if t then number_after (with_digit n (b - 48)) rest else (n, b ∷ rest)) other

pub word_again : (n b : ℕ) (rest : List ℕ) → n < 2 ^ 32 → (nat_le 48 b && nat_le b 57) ≡ false → word_at (decimal n ++ b ∷ rest) ≡ (n, b ∷ rest)
word_again n b rest small other =
    let few : min n (2 ^ 32 - 1) ≡ n = omega arith in
    ap (λ (p : ℕ × List ℕ). (min p.0 (2 ^ 32 - 1), p.1)) (number_again n b rest (omega (arith, small)) other) ∙ ap (λ (k : ℕ). (k, b ∷ rest)) few

-- ---- hexadecimal numbers

digit_again : (d : ℕ) → d < 16 → digit_value (hex_digit d) ≡ d
digit_again d low = grind (arith, nat_tests)

hex_step : (q d : ℕ) → d < 16 → q * 16 + d < 2 ^ 64 → with_hex_digit q (hex_digit d) ≡ q * 16 + d
hex_step q d low small = ap (λ (n : ℕ). (q * 16 % 2 ^ 64 + n) % 2 ^ 64) (digit_again d low) ∙ no_more (q * 16) d small
  where
    no_more : (x d : ℕ) → x + d < 2 ^ 64 → (x % 2 ^ 64 + d) % 2 ^ 64 ≡ x + d
    no_more x d small = omega arith

pub hex_again : (k v : ℕ) → v < 16 ^ k → v < 2 ^ 64 → hex_value (hex k v) ≡ v
unfolding hex hex_value
hex_again zero v low small = omega (arith, low)
hex_again (suc k) v low small =
    let quotient : v / 16 < 16 ^ k = grind (arith, low) in
    let whole : v / 16 * 16 + v % 16 ≡ v = omega arith in
    let digit : v % 16 < 16 = omega arith in
    fold_push with_hex_digit 0 (hex k (v / 16)) (hex_digit (v % 16))
    ∙ ap (λ (q : ℕ). with_hex_digit q (hex_digit (v % 16))) (hex_again k (v / 16) quotient (omega (arith, small, whole)))
    ∙ hex_step (v / 16) (v % 16) digit (omega (arith, small, whole)) ∙ whole

pub length-hex : (k v : ℕ) → length (hex k v) ≡ k
unfolding hex
length-hex zero v = refl
length-hex (suc k) v = omega (arith, length-append (hex k (v / 16)) (hex_digit (v % 16) ∷ []), length-hex k (v / 16))

pub hex_at_front : (k v : ℕ) (rest : List ℕ) → v < 16 ^ k → v < 2 ^ 64 → (hex_value (take k (hex k v ++ rest)) ≡ v) × (drop k (hex k v ++ rest) ≡ rest)
hex_at_front k v rest low small =
    (ap hex_value (take_at (hex k v) rest k (length-hex k v)) ∙ hex_again k v low small, drop_at (hex k v) rest k (length-hex k v))

-- ---- bytes of two digits each

pub tail_of : (P : ℕ → Type 0) (x : ℕ) (xs : List ℕ) → All P (x ∷ xs) → All P xs
tail_of P x xs h = λ k d l. h (suc k) d (omega (arith, l))

pub bytes_again : (bs rest : List ℕ) → All (λ b. b < 2 ^ 8) bs → bytes_at (length bs) (bytes_text bs ++ rest) ≡ bs
unfolding bytes_at
bytes_again [] rest h = refl
bytes_again (b ∷ bs) rest h =
    let low : b < 2 ^ 8 = All-head (λ (b : ℕ). b < 2 ^ 8) b bs h in
    let parts : (hex 2 b ++ bytes_text bs) ++ rest ≡ hex 2 b ++ (bytes_text bs ++ rest) = append_assoc (hex 2 b) (bytes_text bs) rest in
    let front = hex_at_front 2 b (bytes_text bs ++ rest) (omega (arith, low)) (omega (arith, low)) in
    let kept : b % 2 ^ 8 ≡ b = omega (arith, low) in
    ap (λ (t : List ℕ). hex_value (take 2 t) % 2 ^ 8 ∷ bytes_at (length bs) (drop 2 t)) parts
    ∙ ap (λ (v : ℕ). v % 2 ^ 8 ∷ bytes_at (length bs) (drop 2 (hex 2 b ++ (bytes_text bs ++ rest)))) front.0
    ∙ ap (λ (t : List ℕ). b % 2 ^ 8 ∷ bytes_at (length bs) t) front.1
    ∙ ap (λ (v : ℕ). v ∷ bytes_at (length bs) (bytes_text bs ++ rest)) kept
    ∙ ap (λ (t : List ℕ). b ∷ t) (bytes_again bs rest (tail_of (λ (b : ℕ). b < 2 ^ 8) b bs h))

pub length-bytes_text : (bs : List ℕ) → length (bytes_text bs) ≡ 2 * length bs
length-bytes_text [] = refl
length-bytes_text (b ∷ bs) = omega (arith, length-append (hex 2 b) (bytes_text bs), length-hex 2 b, length-bytes_text bs)

pub after_bytes : (bs rest : List ℕ) → drop (2 * length bs) (bytes_text bs ++ rest) ≡ rest
after_bytes bs rest = drop_at (bytes_text bs) rest (2 * length bs) (length-bytes_text bs)
