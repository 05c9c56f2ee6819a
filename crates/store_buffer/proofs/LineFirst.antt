-- The first covered byte of a line, and the line without it.
use Rattle.std.proofs.Common.{◌≡◌, ◌≢◌, ℕ, zero, suc, ◌+◌, ◌-◌, ◌*◌, ◌/◌, ◌%◌, ◌^◌, ◌<◌, ◌==◌, List, [], ◌∷◌, ◌++◌, refl, sym, ap, ◌∙◌, arith, Some, None, slice_index, bit_and, w64, All}
use Rattle.std.proofs.lemmas.Nat.Bits.{bit_at-trailing_zeros, bit_at_clear_other, bit_at_clear_same}
use Rattle.std.specs.Int.{bit_not, trailing_zeros}
use Rattle.store_buffer.specs.declared.line.Line.{Line}
use Rattle.store_buffer.specs.Lines.{addressed, byte_if, lent_bytes, line_at, line_bytes, lines_bytes, put_first, whole_line}
use Rattle.store_buffer.specs.Held.{AllNear}
use Rattle.std.specs.Map.{keys_of}
use Rattle.std.proofs.lemmas.List.Elements.{All-cons, All-head, All-nil, All-tail}
use Rattle.store_buffer.proofs.LineNumbers.{no_mask}

-- indices with no byte give nothing
skip : (k n a j : ℕ) (l : Line) → ((i : ℕ) → i < k → line_at l (j + i) ≡ None) → line_bytes a l j (k + n) ≡ line_bytes a l (j + k) n
skip zero n a j l none =
    let z : 0 + n ≡ n = omega arith in
    let y : j ≡ j + 0 = omega arith in
    ap (line_bytes a l j) z ∙ ap (λ x. line_bytes a l x n) y
skip (suc k) n a j l none =
    let y : j ≡ j + 0 = omega arith in
    let size : suc k + n ≡ suc (k + n) = omega arith in
    let here : line_at l j ≡ None = ap (line_at l) y ∙ none 0 (omega arith) in
    let next : j + 1 + k ≡ j + suc k = omega arith in
    ap (line_bytes a l j) size
    ∙ ap (λ o. put_first (a + j) o (line_bytes a l (j + 1) (k + n))) here
    ∙ skip k n a (j + 1) l (λ i h. let s : j + 1 + i ≡ j + suc i = omega arith in ap (line_at l) s ∙ none (suc i) (omega arith))
    ∙ ap (λ x. line_bytes a l x n) next

pub whole_empty : (a : ℕ) (l : Line) → l.mask ≡ 0 → whole_line a l ≡ []
unfolding whole_line
whole_empty a l e = skip 64 0 a 0 l (λ i h. no_mask l (0 + i) e)

same_indices : (n a j : ℕ) (l m : Line) → ((i : ℕ) → i < n → line_at l (j + i) ≡ line_at m (j + i)) → line_bytes a l j n ≡ line_bytes a m j n
same_indices zero a j l m same = refl
same_indices (suc n) a j l m same =
    let y : j ≡ j + 0 = omega arith in
    let here : line_at l j ≡ line_at m j = ap (line_at l) y ∙ same 0 (omega arith) ∙ ap (line_at m) (sym y) in
    let rest = same_indices n a (j + 1) l m (λ i h. let s : j + 1 + i ≡ j + suc i = omega arith in ap (line_at l) s ∙ same (suc i) (omega arith) ∙ ap (line_at m) (sym s)) in
    ap (λ o. put_first (a + j) o (line_bytes a l (j + 1) n)) here ∙ ap (put_first (a + j) (line_at m j)) rest

bit_none : (l : Line) (j : ℕ) → l.mask / 2 ^ j % 2 ≡ 0 → line_at l j ≡ None
bit_none l j e = ap (λ b. byte_if (b == 1) (slice_index l.bytes j)) e

bit_some : (l : Line) (j : ℕ) → l.mask / 2 ^ j % 2 ≡ 1 → line_at l j ≡ Some (slice_index l.bytes j % 2 ^ 8)
bit_some l j e = ap (λ b. byte_if (b == 1) (slice_index l.bytes j)) e

-- a line is its first covered byte and the line with that byte's bit cleared
pub whole_first : (a : ℕ) (l : Line) → 0 < l.mask → l.mask < 2 ^ 64 → let p = trailing_zeros w64 l.mask in (p < 64) × (whole_line a l ≡ (a + p, slice_index l.bytes p % 2 ^ 8) ∷ whole_line a (record l { mask = bit_and l.mask (bit_not w64 (1 * 2 ^ p % 2 ^ 64)) }))
unfolding whole_line
whole_first a l some small =
    let p = trailing_zeros w64 l.mask in
    let found = bit_at-trailing_zeros w64 l.mask some small in
    let q = 63 - p in
    let size : p + suc q ≡ 64 = omega (arith, found.0) in
    let m : Line = record l { mask = bit_and l.mask (bit_not w64 (1 * 2 ^ p % 2 ^ 64)) } in
    let z : (i : ℕ) → 0 + i ≡ i = λ i. omega arith in
    let none : (i : ℕ) → i < p → line_at l (0 + i) ≡ None = λ i h. ap (line_at l) (z i) ∙ bit_none l i (found.2 i h) in
    let same : (i : ℕ) → i < 64 → i ≢ p → line_at m i ≡ line_at l i = λ i h n. ap (λ b. byte_if (b == 1) (slice_index l.bytes i)) (bit_at_clear_other w64 l.mask p found.0 i h n) in
    let none' : (i : ℕ) → i < p → line_at m (0 + i) ≡ None = λ i h. ap (line_at m) (z i) ∙ same i (omega (arith, found.0)) (λ e. omega arith) ∙ bit_none l i (found.2 i h) in
    let gone : line_at m p ≡ None = bit_none m p (bit_at_clear_same w64 l.mask p found.0) in
    let rest : line_bytes a l (p + 1) q ≡ line_bytes a m (p + 1) q = same_indices q a (p + 1) l m (λ i h. sym (same (p + 1 + i) (omega arith) (λ e. omega arith))) in
    let first : line_bytes a l 0 64 ≡ (a + p, slice_index l.bytes p % 2 ^ 8) ∷ line_bytes a l (p + 1) q =
    ap (line_bytes a l 0) (sym size) ∙ skip p (suc q) a 0 l none ∙ ap (λ x. line_bytes a l x (suc q)) (z p) ∙ ap (λ o. put_first (a + p) o (line_bytes a l (p + 1) q)) (bit_some l p found.1) in
    let second : line_bytes a m 0 64 ≡ line_bytes a m (p + 1) q =
    ap (line_bytes a m 0) (sym size) ∙ skip p (suc q) a 0 m none' ∙ ap (λ x. line_bytes a m x (suc q)) (z p) ∙ ap (λ o. put_first (a + p) o (line_bytes a m (p + 1) q)) gone in
    (found.0, first ∙ ap (λ es. (a + p, slice_index l.bytes p % 2 ^ 8) ∷ es) (rest ∙ sym second))

-- a buffer of lines of which the first has a covered byte
pub lines_first : (a : ℕ) (l : Line) (bs : List (ℕ × ℕ)) (self : List (ℕ × ℕ)) → whole_line a l ++ bs ≡ self → (l.mask ≡ 0 → ⊥) → l.mask < 2 ^ 64 → let p = trailing_zeros w64 l.mask in self ≡ (a + p, slice_index l.bytes p % 2 ^ 8) ∷ (whole_line a (record l { mask = bit_and l.mask (bit_not w64 (1 * 2 ^ p % 2 ^ 64)) }) ++ bs)
lines_first a l bs self e some small = sym e ∙ ap (λ xs. xs ++ bs) (whole_first a l (above l.mask some) small).1
  where
    above : (m : ℕ) → (m ≡ 0 → ⊥) → 0 < m
    above m h = omega arith

-- a line with nothing left gives way to the next
pub lines_next : (a k : ℕ) (l m : Line) (es : List (ℕ × Line)) (rest self : List (ℕ × ℕ)) → whole_line a l ++ rest ≡ self → l.mask ≡ 0 → rest ≡ whole_line (64 * k) m ++ lines_bytes es → whole_line (k * 64) m ++ lines_bytes es ≡ self
lines_next a k l m es rest self e none is =
    let index : k * 64 ≡ 64 * k = omega arith in
    ap (λ x. whole_line x m ++ lines_bytes es) index ∙ sym is ∙ sym (ap (λ xs. xs ++ rest) (whole_empty a l none)) ∙ e

pub lent_is : (es : List (ℕ × Line)) → lent_bytes (addressed es) ≡ lines_bytes es
lent_is [] = refl
lent_is (e ∷ es) = ap (λ r. whole_line (64 * e.0) e.1 ++ r) (lent_is es)

pub addressed_near : (es : List (ℕ × Line)) → AllNear es → All (λ (e : ℕ × Line). (e.0 % 64 ≡ 0) × (e.0 < 2 ^ 64)) (addressed es)
addressed_near [] h = All-nil (λ (e : ℕ × Line). (e.0 % 64 ≡ 0) × (e.0 < 2 ^ 64))
addressed_near (e ∷ es) h =
    All-cons (λ (e : ℕ × Line). (e.0 % 64 ≡ 0) × (e.0 < 2 ^ 64)) (64 * e.0, e.1) (addressed es)
    (line_start e.0 (All-head (λ k. k < 2 ^ 58) e.0 (keys_of es) h))
    (addressed_near es (All-tail (λ k. k < 2 ^ 58) e.0 (keys_of es) h))
  where
    line_start : (k : ℕ) → k < 2 ^ 58 → (64 * k % 64 ≡ 0) × (64 * k < 2 ^ 64)
    line_start k h = (omega arith, omega arith)
