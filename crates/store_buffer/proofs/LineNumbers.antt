-- Numbers of which a line covers some bytes.
use Rattle.std.proofs.Common.{◌≡◌, ℕ, zero, suc, ◌+◌, ◌*◌, ◌/◌, ◌%◌, ◌^◌, ◌<◌, ◌≤◌, ◌==◌, List, length, refl, sym, ap, subst, ◌∙◌, arith, true, false, if◌then◌else◌, nat_lt, ⊎_elim, Some, None, unwrap_or, slice_index, get_or, set, bit_and}
use Rattle.std.proofs.lemmas.Bool.{cases_eq, ne_eqb}
use Rattle.std.proofs.lemmas.Bool.Decides.{nat_tests}
use Rattle.std.proofs.lemmas.List.{get_or-set_other, get_or-set_same}
use Rattle.std.proofs.lemmas.Nat.Bits.{bit_at-zero, shr_and_one}
use Rattle.std.proofs.lemmas.Nat.{pow-add, shr_below}
use Rattle.std.proofs.Math.Nat.{div-div-eq-div-mul, div-one, mod-eq_of_lt}
use Rattle.pages.specs.declared.access.Width.{Width}
use Rattle.pages.specs.declared.access.Width.TheVariants.{W1, W2, W4, W8}
use Rattle.pages.specs.Memory.{number_at, value_at, width_bytes}
use Rattle.store_buffer.specs.declared.line.Line.{Line}
use Rattle.store_buffer.specs.Lines.{byte_if, line_at, number_over}

split : (m : ℕ) → m % 2 ^ 8 + 2 ^ 8 * (m / 2 ^ 8) ≡ m
split m = omega arith

rest_fits : (m n : ℕ) → m < 2 ^ (8 * suc n) → m / 2 ^ 8 < 2 ^ (8 * n)
rest_fits m n h =
    let size : 8 * suc n ≡ 8 * n + 8 = omega arith in
    shr_below m (8 * n) 8 (subst (λ k. m < 2 ^ k) size h)

-- with no byte covered it stays
pub over_none : (n : ℕ) (l : Line) (j m : ℕ) → m < 2 ^ (8 * n) → ((i : ℕ) → i < n → line_at l (j + i) ≡ None) → m ≡ number_over l j m n
over_none zero l j m h none = let e : 2 ^ (8 * 0) ≡ 1 = refl in omega arith
over_none (suc n) l j m h none =
    let here : line_at l j ≡ None = let z : j ≡ j + 0 = omega arith in ap (line_at l) z ∙ none 0 (omega arith) in
    let rest = over_none n l (j + 1) (m / 2 ^ 8) (rest_fits m n h) (λ i q. let s : j + 1 + i ≡ j + suc i = omega arith in ap (line_at l) s ∙ none (suc i) (omega arith)) in
    sym (split m) ∙ ap (λ x. m % 2 ^ 8 + 2 ^ 8 * x) rest ∙ ap (λ o. unwrap_or o (m % 2 ^ 8) + 2 ^ 8 * number_over l (j + 1) (m / 2 ^ 8) n) (sym here)

-- a number whose bytes are known one by one
pub over_known : (n : ℕ) (l : Line) (j m : ℕ) (cs : List ℕ) (a : ℕ) → ((i : ℕ) → i < n → get_or cs (a + i) 0 ≡ unwrap_or (line_at l (j + i)) (m / 2 ^ (8 * i) % 2 ^ 8)) → number_at cs a n ≡ number_over l j m n
over_known zero l j m cs a known = refl
over_known (suc n) l j m cs a known =
    let z : a ≡ a + 0 = omega arith in
    let zj : j + 0 ≡ j = omega arith in
    let zero_bits : 8 * 0 ≡ 0 = refl in
    let here : get_or cs a 0 ≡ unwrap_or (line_at l j) (m % 2 ^ 8) =
    ap (λ k. get_or cs k 0) z ∙ known 0 (omega arith) ∙ ap (λ k. unwrap_or (line_at l k) (m / 2 ^ (8 * 0) % 2 ^ 8)) zj ∙ ap (λ x. unwrap_or (line_at l j) (x % 2 ^ 8)) (div-one m) in
    let rest = over_known n l (j + 1) (m / 2 ^ 8) cs (a + 1) (λ i q.
    let sa : a + 1 + i ≡ a + suc i = omega arith in
    let sj : j + suc i ≡ j + 1 + i = omega arith in
    let size : 8 * suc i ≡ 8 + 8 * i = omega arith in
    let down : m / 2 ^ (8 * suc i) ≡ m / 2 ^ 8 / 2 ^ (8 * i) = ap (λ k. m / 2 ^ k) size ∙ ap (λ x. m / x) (pow-add 2 8 (8 * i)) ∙ sym (div-div-eq-div-mul m (2 ^ 8) (2 ^ (8 * i))) in
    ap (λ k. get_or cs k 0) sa ∙ known (suc i) (omega arith) ∙ ap (λ k. unwrap_or (line_at l k) (m / 2 ^ (8 * suc i) % 2 ^ 8)) sj ∙ ap (λ x. unwrap_or (line_at l (j + 1 + i)) (x % 2 ^ 8)) down) in
    ap (λ b. b + 2 ^ 8 * number_at cs (a + 1) n) here ∙ ap (λ x. unwrap_or (line_at l j) (m % 2 ^ 8) + 2 ^ 8 * x) rest

-- the bytes of a number
pub byte_of_number : (n : ℕ) (bs : List ℕ) (a i : ℕ) → i < n → ((k : ℕ) → get_or bs k 0 < 2 ^ 8) → number_at bs a n / 2 ^ (8 * i) % 2 ^ 8 ≡ get_or bs (a + i) 0
byte_of_number zero bs a i h small = absurd (omega arith)
byte_of_number (suc n) bs a zero h small =
    let z : a ≡ a + 0 = omega arith in
    let b = small a in
    ap (λ x. x % 2 ^ 8) (div-one (number_at bs a (suc n))) ∙ low (get_or bs a 0) (number_at bs (a + 1) n) b ∙ ap (λ k. get_or bs k 0) z
  where
    low : (b r : ℕ) → b < 2 ^ 8 → (b + 2 ^ 8 * r) % 2 ^ 8 ≡ b
    low b r h = omega arith
byte_of_number (suc n) bs a (suc i) h small =
    let sa : a + 1 + i ≡ a + suc i = omega arith in
    let size : 8 * suc i ≡ 8 + 8 * i = omega arith in
    let m = number_at bs a (suc n) in
    let b = small a in
    let down : m / 2 ^ (8 * suc i) ≡ m / 2 ^ 8 / 2 ^ (8 * i) = ap (λ k. m / 2 ^ k) size ∙ ap (λ x. m / x) (pow-add 2 8 (8 * i)) ∙ sym (div-div-eq-div-mul m (2 ^ 8) (2 ^ (8 * i))) in
    ap (λ x. x % 2 ^ 8) down ∙ ap (λ x. x / 2 ^ (8 * i) % 2 ^ 8) (high (get_or bs a 0) (number_at bs (a + 1) n) b)
    ∙ byte_of_number n bs (a + 1) i (omega arith) small ∙ ap (λ k. get_or bs k 0) sa
  where
    high : (b r : ℕ) → b < 2 ^ 8 → (b + 2 ^ 8 * r) / 2 ^ 8 ≡ r
    high b r h = omega arith

-- with each byte covered it is the line's
pub over_all : (n : ℕ) (l : Line) (j m : ℕ) → ((k : ℕ) → get_or l.bytes k 0 < 2 ^ 8) → ((i : ℕ) → i < n → line_at l (j + i) ≡ Some (slice_index l.bytes (j + i) % 2 ^ 8)) → number_at l.bytes j n ≡ number_over l j m n
over_all n l j m small all =
    over_known n l j m l.bytes j (λ i h. sym (mod-eq_of_lt (small (j + i))) ∙ ap (λ o. unwrap_or o (m / 2 ^ (8 * i) % 2 ^ 8)) (sym (all i h)))

pub value_is : (w : Width) (bs : List ℕ) (a : ℕ) → value_at bs a w ≡ number_at bs a (width_bytes w)
value_is W1 bs a = refl
value_is W2 bs a = refl
value_is W4 bs a = refl
value_is W8 bs a = refl

pub over_all_value : (w : Width) (l : Line) (j m : ℕ) → ((k : ℕ) → get_or l.bytes k 0 < 2 ^ 8) → ((i : ℕ) → i < width_bytes w → line_at l (j + i) ≡ Some (slice_index l.bytes (j + i) % 2 ^ 8)) → value_at l.bytes j w ≡ number_over l j m (width_bytes w)
over_all_value w l j m small all = value_is w l.bytes j ∙ over_all (width_bytes w) l j m small all

-- the bytes of a number with the covered ones of the first k taken from a line
abbrev pub Mixed : Line → ℕ → ℕ → ℕ → List ℕ → Type 0
Mixed l p m k bs = (i : ℕ) → i < 8 → get_or bs i 0 ≡ (if nat_lt i k then unwrap_or (line_at l (p + i)) (m / 2 ^ (8 * i) % 2 ^ 8) else m / 2 ^ (8 * i) % 2 ^ 8)

later : (i k : ℕ) → (i ≡ k → ⊥) → nat_lt i (k + 1) ≡ nat_lt i k
later i k h = grind (arith, nat_tests)

now : (i k : ℕ) → i ≡ k → nat_lt i (k + 1) ≡ true
now i k h = grind (arith, nat_tests)

not_yet : (i k : ℕ) → i ≡ k → nat_lt i k ≡ false
not_yet i k h = grind (arith, nat_tests)

done : (i k : ℕ) → i < k → nat_lt i k ≡ true
done i k h = grind (arith, nat_tests)

pub mixed_covered : (l : Line) (p m k b : ℕ) (bs : List ℕ) → k < length bs → bit_and (l.mask / 2 ^ (p + k)) 1 ≡ 1 → b ≡ get_or l.bytes (p + k) 0 → b < 2 ^ 8 → Mixed l p m k bs → Mixed l p m (k + 1) (set bs k b)
mixed_covered l p m k b bs inside bit is small before i h =
    ⊎_elim
    (λ (same : i ≡ k).
    let covered : line_at l (p + k) ≡ Some (get_or l.bytes (p + k) 0 % 2 ^ 8) = ap (λ x. byte_if (x == 1) (slice_index l.bytes (p + k))) (sym (shr_and_one l.mask (p + k)) ∙ bit) in
    let value : b ≡ get_or l.bytes (p + k) 0 % 2 ^ 8 = sym (mod-eq_of_lt small) ∙ ap (λ x. x % 2 ^ 8) is in
    ap (λ j. get_or (set bs k b) j 0) same ∙ get_or-set_same bs k b 0 inside ∙ value
    ∙ ap (λ o. unwrap_or o (m / 2 ^ (8 * k) % 2 ^ 8)) (sym covered)
    ∙ ap (λ j. unwrap_or (line_at l (p + j)) (m / 2 ^ (8 * j) % 2 ^ 8)) (sym same)
    ∙ sym (ap (λ t. if t then unwrap_or (line_at l (p + i)) (m / 2 ^ (8 * i) % 2 ^ 8) else m / 2 ^ (8 * i) % 2 ^ 8) (now i k same)))
    (λ (other : i ≡ k → ⊥).
    get_or-set_other bs k i b 0 other ∙ before i h
    ∙ sym (ap (λ t. if t then unwrap_or (line_at l (p + i)) (m / 2 ^ (8 * i) % 2 ^ 8) else m / 2 ^ (8 * i) % 2 ^ 8) (later i k other)))
    (cases_eq i k)

pub mixed_uncovered : (l : Line) (p m k : ℕ) (bs : List ℕ) → (bit_and (l.mask / 2 ^ (p + k)) 1 ≡ 1 → ⊥) → Mixed l p m k bs → Mixed l p m (k + 1) bs
mixed_uncovered l p m k bs bit before i h =
    ⊎_elim
    (λ (same : i ≡ k).
    let absent : line_at l (p + i) ≡ None = ap (λ j. line_at l (p + j)) same ∙ ap (λ t. byte_if t (slice_index l.bytes (p + k))) (ne_eqb (l.mask / 2 ^ (p + k) % 2) 1 (λ e. bit (shr_and_one l.mask (p + k) ∙ e))) in
    before i h ∙ ap (λ t. if t then unwrap_or (line_at l (p + i)) (m / 2 ^ (8 * i) % 2 ^ 8) else m / 2 ^ (8 * i) % 2 ^ 8) (not_yet i k same)
    ∙ ap (λ o. unwrap_or o (m / 2 ^ (8 * i) % 2 ^ 8)) (sym absent)
    ∙ sym (ap (λ t. if t then unwrap_or (line_at l (p + i)) (m / 2 ^ (8 * i) % 2 ^ 8) else m / 2 ^ (8 * i) % 2 ^ 8) (now i k same)))
    (λ (other : i ≡ k → ⊥).
    before i h ∙ sym (ap (λ t. if t then unwrap_or (line_at l (p + i)) (m / 2 ^ (8 * i) % 2 ^ 8) else m / 2 ^ (8 * i) % 2 ^ 8) (later i k other)))
    (cases_eq i k)

pub short : (w : Width) → width_bytes w ≤ 8
short W1 = omega arith
short W2 = omega arith
short W4 = omega arith
short W8 = omega arith

pub mixed_value : (w : Width) (l : Line) (p m k : ℕ) (bs : List ℕ) → width_bytes w ≤ k → Mixed l p m k bs → value_at bs 0 w ≡ number_over l p m (width_bytes w)
mixed_value w l p m k bs h before =
    value_is w bs 0
    ∙ over_known (width_bytes w) l p m bs 0 (λ i q.
    let z : 0 + i ≡ i = omega arith in
    let first : i < k = omega arith in
    let low : i < 8 = omega (arith, short w) in
    ap (λ j. get_or bs j 0) z ∙ before i low ∙ ap (λ t. if t then unwrap_or (line_at l (p + i)) (m / 2 ^ (8 * i) % 2 ^ 8) else m / 2 ^ (8 * i) % 2 ^ 8) (done i k first))

-- a number with the covered bytes of a line instead of its own, as it stands in bytes
pub over_value : (w : Width) (l : Line) (j : ℕ) (bs cs : List ℕ) (a : ℕ) → ((k : ℕ) → get_or bs k 0 < 2 ^ 8) → ((i : ℕ) → i < width_bytes w → get_or cs (a + i) 0 ≡ unwrap_or (line_at l (j + i)) (get_or bs (a + i) 0)) → number_over l j (value_at bs a w) (width_bytes w) ≡ value_at cs a w
over_value w l j bs cs a small known =
    let n = width_bytes w in
    ap (λ m. number_over l j m n) (value_is w bs a)
    ∙ sym (over_known n l j (number_at bs a n) cs a (λ i h. known i h ∙ ap (λ b. unwrap_or (line_at l (j + i)) b) (sym (byte_of_number n bs a i h small))))
    ∙ sym (value_is w cs a)

-- an access at a multiple of its width stays in its line
pub in_one_line : (a : ℕ) (w : Width) → a % width_bytes w ≡ 0 → a % 64 + width_bytes w ≤ 64
in_one_line a W1 h = omega arith
in_one_line a W2 h = omega arith
in_one_line a W4 h = omega arith
in_one_line a W8 h = omega arith

-- a line with no bit set covers nothing
pub no_mask : (l : Line) (j : ℕ) → l.mask ≡ 0 → line_at l j ≡ None
no_mask l j e = ap (λ m. byte_if (m / 2 ^ j % 2 == 1) (slice_index l.bytes j)) e ∙ ap (λ b. byte_if (b == 1) (slice_index l.bytes j)) (bit_at-zero j)

-- the addresses of one line
pub one_line : (a i : ℕ) → a % 64 + i < 64 → ((a + i) / 64 ≡ a / 64) × ((a + i) % 64 ≡ a % 64 + i)
one_line a i h = (omega arith, omega arith)
