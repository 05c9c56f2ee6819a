-- The bits of a line's mask.
use Rattle.std.proofs.Common.{◌≡◌, ℕ, ◌+◌, ◌-◌, ◌*◌, ◌/◌, ◌%◌, ◌^◌, ◌<◌, ◌≤◌, ◌==◌, List, length, refl, sym, ap, ◌∙◌, arith, Bool, true, false, ◌||◌, if◌then◌else◌, ◌⊎◌, ⊎_elim, inl, inr, Some, None, min, max, bit_and, bit_or, slice_index, get_or}
use Rattle.std.proofs.lemmas.Bool.{cases_lt}
use Rattle.std.proofs.lemmas.Bool.Decides.{nat_tests}
use Rattle.std.proofs.lemmas.Nat.{pow-add, shr-shr}
use Rattle.std.proofs.lemmas.Nat.Bits.{bit_at-lt, bit_at-zero, bit_at_and, bit_at_mask_above, bit_at_mask_below, bit_at_mask_inside, bit_at_ones, bit_at_or}
use Rattle.std.proofs.Math.Nat.{mod-eq_of_lt, pow-le-pow_right}
use Rattle.pages.specs.declared.access.Width.{Width}
use Rattle.pages.specs.declared.access.Width.TheVariants.{W1, W2, W4, W8}
use Rattle.pages.specs.Memory.{byte_of, in_range, width_bytes, written}
use Rattle.pages.proofs.StoreLaws.{written_at}
use Rattle.store_buffer.specs.declared.line.Line.{Line}
use Rattle.store_buffer.specs.Lines.{byte_if, line_at}

-- ones of a width, shifted to a index
mask_1 : (p : ℕ) → p + 1 ≤ 64 → (2 ^ 1 - 1) * 2 ^ p % 2 ^ 64 ≡ 2 ^ (p + 1) - 2 ^ p
mask_1 p h = let b = pow-le-pow_right {n = 2} (omega arith) {i = p + 1} {j = 64} h in let e = pow-add 2 p 1 in mod-eq_of_lt (omega arith) ∙ omega arith

mask_2 : (p : ℕ) → p + 2 ≤ 64 → (2 ^ 2 - 1) * 2 ^ p % 2 ^ 64 ≡ 2 ^ (p + 2) - 2 ^ p
mask_2 p h = let b = pow-le-pow_right {n = 2} (omega arith) {i = p + 2} {j = 64} h in let e = pow-add 2 p 2 in mod-eq_of_lt (omega arith) ∙ omega arith

mask_4 : (p : ℕ) → p + 4 ≤ 64 → (2 ^ 4 - 1) * 2 ^ p % 2 ^ 64 ≡ 2 ^ (p + 4) - 2 ^ p
mask_4 p h = let b = pow-le-pow_right {n = 2} (omega arith) {i = p + 4} {j = 64} h in let e = pow-add 2 p 4 in mod-eq_of_lt (omega arith) ∙ omega arith

mask_8 : (p : ℕ) → p + 8 ≤ 64 → (2 ^ 8 - 1) * 2 ^ p % 2 ^ 64 ≡ 2 ^ (p + 8) - 2 ^ p
mask_8 p h = let b = pow-le-pow_right {n = 2} (omega arith) {i = p + 8} {j = 64} h in let e = pow-add 2 p 8 in mod-eq_of_lt (omega arith) ∙ omega arith

pub mask_of : (w : Width) (p : ℕ) → p + width_bytes w ≤ 64 → (2 ^ width_bytes w - 1) * 2 ^ p % 2 ^ 64 ≡ 2 ^ (p + width_bytes w) - 2 ^ p
mask_of W1 p h = mask_1 p h
mask_of W2 p h = mask_2 p h
mask_of W4 p h = mask_4 p h
mask_of W8 p h = mask_8 p h

in_yes : (a n k : ℕ) → a ≤ k → k < a + n → in_range a n k ≡ true
in_yes a n k l h = grind (arith, nat_tests)

in_no : (a n k : ℕ) → (k < a) ⊎ (a + n ≤ k) → in_range a n k ≡ false
in_no a n k h = grind (arith, nat_tests)

bit_or_at : (m c j : ℕ) → bit_or m c / 2 ^ j % 2 ≡ max (m / 2 ^ j % 2) (c / 2 ^ j % 2)
bit_or_at m c j = bit_at_or m c j

bit_small : (m j : ℕ) → m / 2 ^ j % 2 < 2
bit_small m j = bit_at-lt m j

-- a bit of a mask with the bits of n indices set
pub bit_put : (m p n j : ℕ) → (bit_or m (2 ^ (p + n) - 2 ^ p) / 2 ^ j % 2 == 1) ≡ (in_range p n j || (m / 2 ^ j % 2 == 1))
bit_put m p n j =
    let c = 2 ^ (p + n) - 2 ^ p in
    let b = m / 2 ^ j % 2 in
    let small = bit_small m j in
    ap (λ x. x == 1) (bit_or_at m c j)
    ∙ ⊎_elim
    (λ (lt : j < p). ap (λ x. max b x == 1) (bit_at_mask_below p (p + n) j lt) ∙ zero_max b ∙ sym (ap (λ t. t || (b == 1)) (in_no p n j (inl lt))))
    (λ (ge : p ≤ j).
    ⊎_elim
    (λ (lt : j < p + n). ap (λ x. max b x == 1) (bit_at_mask_inside p (p + n) j ge lt) ∙ one_max b small ∙ sym (ap (λ t. t || (b == 1)) (in_yes p n j ge lt)))
    (λ (past : p + n ≤ j). ap (λ x. max b x == 1) (bit_at_mask_above p (p + n) j past) ∙ zero_max b ∙ sym (ap (λ t. t || (b == 1)) (in_no p n j (inr past))))
    (cases_lt j (p + n)))
    (cases_lt j p)
  where
    zero_max : (b : ℕ) → (max b 0 == 1) ≡ (b == 1)
    zero_max b = let e : max b 0 ≡ b = omega arith in ap (λ x. x == 1) e

    one_max : (b : ℕ) → b < 2 → (max b 1 == 1) ≡ true
    one_max b h = let e : max b 1 ≡ 1 = omega arith in ap (λ x. x == 1) e

byte_if_put : (t u : Bool) (x y z : ℕ) → (t ≡ true → x ≡ z) → (t ≡ false → x ≡ y) → z < 2 ^ 8 → byte_if (t || u) x ≡ (if t then Some z else byte_if u y)
byte_if_put true u x y z there elsewhere small = ap (λ v. Some (v % 2 ^ 8)) (there refl) ∙ ap (λ v. Some v) (mod-eq_of_lt small)
byte_if_put false u x y z there elsewhere small = ap (byte_if u) (elsewhere refl)

small_byte : (v k : ℕ) → byte_of v k < 2 ^ 8
small_byte v k = low (v / 2 ^ (8 * k))
  where
    low : (v : ℕ) → v % 2 ^ 8 < 2 ^ 8
    low v = omega arith

-- a line after a number is written into it and covered
pub line_put : (l : Line) (bs : List ℕ) (m c p v : ℕ) (w : Width) → length l.bytes ≡ 64 → bs ≡ written l.bytes p v (width_bytes w) → c ≡ 2 ^ (p + width_bytes w) - 2 ^ p → m ≡ bit_or l.mask c → (j : ℕ) → j < 64 → byte_if (m / 2 ^ j % 2 == 1) (slice_index bs j) ≡ (if in_range p (width_bytes w) j then Some (byte_of v (j - p)) else line_at l j)
line_put l bs m c p v w size e f g j h =
    let n = width_bytes w in
    let inside : j < length l.bytes = omega arith in
    let byte : slice_index bs j ≡ (if in_range p n j then byte_of v (j - p) else slice_index l.bytes j) = ap (λ (xs : List ℕ). get_or xs j 0) e ∙ written_at n l.bytes p v j inside in
    ap (λ x. byte_if (x / 2 ^ j % 2 == 1) (slice_index bs j)) (g ∙ ap (bit_or l.mask) f)
    ∙ ap (λ t. byte_if t (slice_index bs j)) (bit_put l.mask p n j)
    ∙ byte_if_put (in_range p n j) (l.mask / 2 ^ j % 2 == 1) (slice_index bs j) (slice_index l.bytes j) (byte_of v (j - p))
    (λ t. byte ∙ ap (λ b. if b then byte_of v (j - p) else slice_index l.bytes j) t)
    (λ t. byte ∙ ap (λ b. if b then byte_of v (j - p) else slice_index l.bytes j) t)
    (small_byte v (j - p))

-- a bit of what is covered of a number
bit_of_cover : (m p n i : ℕ) → i < n → bit_and (m / 2 ^ p) (2 ^ n - 1) / 2 ^ i % 2 ≡ m / 2 ^ (p + i) % 2
bit_of_cover m p n i h =
    let small = bit_small (m / 2 ^ p) i in
    bit_at_and (m / 2 ^ p) (2 ^ n - 1) i ∙ ap (λ x. min (m / 2 ^ p / 2 ^ i % 2) x) (bit_at_ones n i h) ∙ below_one (m / 2 ^ p / 2 ^ i % 2) small
    ∙ ap (λ x. x % 2) (shr-shr m p i)
  where
    below_one : (b : ℕ) → b < 2 → min b 1 ≡ b
    below_one b h = omega arith

-- no byte of a number is covered
pub none_covered : (l : Line) (p n : ℕ) → bit_and (l.mask / 2 ^ p) (2 ^ n - 1) ≡ 0 → (i : ℕ) → i < n → line_at l (p + i) ≡ None
none_covered l p n e i h =
    let bit : l.mask / 2 ^ (p + i) % 2 ≡ 0 = sym (bit_of_cover l.mask p n i h) ∙ ap (λ c. c / 2 ^ i % 2) e ∙ bit_at-zero i in
    ap (λ b. byte_if (b == 1) (slice_index l.bytes (p + i))) bit

-- each byte of a number is covered
pub all_covered : (l : Line) (p n : ℕ) → bit_and (l.mask / 2 ^ p) (2 ^ n - 1) ≡ 2 ^ n - 1 → (i : ℕ) → i < n → line_at l (p + i) ≡ Some (slice_index l.bytes (p + i) % 2 ^ 8)
all_covered l p n e i h =
    let bit : l.mask / 2 ^ (p + i) % 2 ≡ 1 = sym (bit_of_cover l.mask p n i h) ∙ ap (λ c. c / 2 ^ i % 2) e ∙ bit_at_ones n i h in
    ap (λ b. byte_if (b == 1) (slice_index l.bytes (p + i))) bit
