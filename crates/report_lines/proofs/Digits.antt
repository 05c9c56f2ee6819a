-- Hexadecimal digits, written from the last to the first.
use Rattle.std.proofs.Common.{◌≡◌, ℕ, zero, suc, ◌+◌, ◌-◌, ◌*◌, ◌<◌, ◌≤◌, ◌/◌, ◌%◌, Bool, true, ◌&&◌, T, eqb, List, [], ◌∷◌, ◌++◌, drop, set, length, get_or, refl, sym, ap, ◌∙◌, inl, inr, eq-zero-or-pos, eqb→eq, append_assoc, add-one, arith}
use Rattle.std.proofs.lemmas.List.{drop-set, length-set}
use lib.Ieee.Fits.{and_l, and_r}
use Rattle.report_lines.specs.Text.{hex, hex_digit}
use Rattle.report_lines.specs.declared.line.TheConstants.{PAIRS}

abbrev are_pairs : ℕ → Bool
are_pairs zero = true
are_pairs (suc b) = (eqb (get_or PAIRS (2 * b) 0) (hex_digit (b / 16)) && eqb (get_or PAIRS (2 * b + 1) 0) (hex_digit (b % 16))) && are_pairs b

below : (n b : ℕ) → T (are_pairs n) → b < n → (get_or PAIRS (2 * b) 0 ≡ hex_digit (b / 16)) × (get_or PAIRS (2 * b + 1) 0 ≡ hex_digit (b % 16))
below zero b t low = absurd (omega arith)
below (suc n) b t low =
    elim (eq-zero-or-pos (n - b)) [
      | inl z ↦ let same : b ≡ n = omega arith in let both = and_l _ (are_pairs n) t in rw same (eqb→eq _ _ (and_l _ _ both), eqb→eq _ _ (and_r _ _ both))
      | inr g ↦ below n b (and_r _ (are_pairs n) t) (omega arith)
    ]

-- the table of the digits
pub pairs_at : (b : ℕ) → b < 256 → (get_or PAIRS (2 * b) 0 ≡ hex_digit (b / 16)) × (get_or PAIRS (2 * b + 1) 0 ≡ hex_digit (b % 16))
pairs_at b low = below 256 b tt low

one_more : (p v : ℕ) (room : List ℕ) → p < length room → hex (suc p) v ++ drop (suc p) room ≡ hex p (v / 16) ++ drop p (set room p (hex_digit (v % 16)))
unfolding hex
one_more p v room low =
    append_assoc (hex p (v / 16)) (hex_digit (v % 16) ∷ []) (drop (suc p) room)
    ∙ ap (λ (ds : List ℕ). hex p (v / 16) ++ ds) (sym (drop-set room p (hex_digit (v % 16)) low ∙ ap (λ (n : ℕ). hex_digit (v % 16) ∷ drop n room) (add-one p)))

-- one digit more is written
pub next_digit : (place rest digit : ℕ) (room all : List ℕ) → 0 < place → place ≤ length room → digit ≡ hex_digit (rest % 16) → all ≡ hex place rest ++ drop place room →
    all ≡ hex (place - 1) (rest / 16) ++ drop (place - 1) (set room (place - 1) digit)
next_digit zero rest digit room all some within is same = absurd (omega arith)
next_digit (suc p) rest digit room all some within is same =
    let less : p ≡ suc p - 1 = omega arith in
    same ∙ one_more p rest room (omega arith) ∙ ap (λ (d : ℕ). hex p (rest / 16) ++ drop p (set room p d)) (sym is)
    ∙ ap (λ (k : ℕ). hex k (rest / 16) ++ drop k (set room k digit)) less

-- two digits more are written
pub next_pair : (place rest high low : ℕ) (room all : List ℕ) → 2 ≤ place → place ≤ length room → high ≡ hex_digit (rest % 256 / 16) → low ≡ hex_digit (rest % 256 % 16) → all ≡ hex place rest ++ drop place room →
    all ≡ hex (place - 2) (rest / 256) ++ drop (place - 2) (set (set room (place - 2 + 1) low) (place - 2) high)
next_pair place rest high low room all some within h l same =
    let last : place - 2 + 1 ≡ place - 1 = omega arith in
    let first : place - 1 - 1 ≡ place - 2 = omega arith in
    let ones : rest % 256 % 16 ≡ rest % 16 = omega arith in
    let sixteens : rest % 256 / 16 ≡ rest / 16 % 16 = omega arith in
    let over : rest / 16 / 16 ≡ rest / 256 = omega arith in
    let one = next_digit place rest low room all (omega arith) within (l ∙ ap hex_digit ones) same in
    let two = next_digit (place - 1) (rest / 16) high (set room (place - 1) low) all (omega arith) (omega (arith, length-set room (place - 1) low)) (h ∙ ap hex_digit sixteens) one in
    two ∙ ap (λ (n : ℕ). hex (place - 1 - 1) n ++ drop (place - 1 - 1) (set (set room (place - 1) low) (place - 1 - 1) high)) over
    ∙ ap (λ (k : ℕ). hex k (rest / 256) ++ drop k (set (set room (place - 1) low) k high)) first
    ∙ ap (λ (k : ℕ). hex (place - 2) (rest / 256) ++ drop (place - 2) (set (set room k low) (place - 2) high)) (sym last)

-- all digits are written
pub none_left : (place rest : ℕ) (room : List ℕ) → place ≤ 0 → hex place rest ++ drop place room ≡ room
unfolding hex
none_left zero rest room none = refl
none_left (suc p) rest room none = absurd (omega arith)

-- the last digit of an odd number of them is written
pub last_digit : (place rest digit : ℕ) (room all : List ℕ) → place ≡ 1 → place ≤ length room → digit ≡ hex_digit (rest % 256 % 16) → all ≡ hex place rest ++ drop place room → set room 0 digit ≡ all
last_digit place rest digit room all one within is same =
    let ones : rest % 256 % 16 ≡ rest % 16 = omega arith in
    let none : place - 1 ≡ 0 = omega arith in
    sym (
    next_digit place rest digit room all (omega arith) within (is ∙ ap hex_digit ones) same
    ∙ ap (λ (k : ℕ). hex k (rest / 16) ++ drop k (set room k digit)) none
    ∙ none_left 0 (rest / 16) (set room 0 digit) (omega arith)
    )
