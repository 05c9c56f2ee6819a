-- Numbers in bytes, written in one step.
use Rattle.std.proofs.Common.{◌≡◌, ℕ, zero, suc, ◌+◌, ◌-◌, ◌/◌, ◌%◌, ◌^◌, ◌≤◌, List, [], ◌∷◌, ◌++◌, length, set, take, drop, refl, sym, ap, ◌∙◌, arith}
use Rattle.std.proofs.Math.Nat.{div-div-eq-div-mul, div-one, pow-suc}
use Rattle.std.proofs.lemmas.List.{length-set, take-append-drop, append_assoc, append-nil, take_more_set, drop-set-lt, drop-drop, drop_all, length-drop, take_rest}
use Rattle.std.specs.Int.{byte_at, bytes_low_first}
use Rattle.pages.specs.Memory.{written}
use borrow.Rule.Slice.PartMut.{put_mid}

-- a byte of a number, by its place
byte_of_place : (j v : ℕ) → byte_at j v ≡ v / 256 ^ j % 2 ^ 8
byte_of_place zero v = ap (λ (y : ℕ). y % 256) (sym (div-one v))
byte_of_place (suc j) v = refl

-- the bytes of a number laid over a part of the list
pasted : (n j v a : ℕ) (bs : List ℕ) → a + n ≤ length bs → take a bs ++ (bytes_low_first j n v ++ drop n (drop a bs)) ≡ written bs a (v / 256 ^ j) n
pasted zero j v a bs h = take-append-drop a bs
pasted (suc n) j v a bs h =
    let b = byte_at j v in
    let bs' = set bs a b in
    let low : b ≡ v / 256 ^ j % 2 ^ 8 = byte_of_place j v in
    let high : v / 256 ^ j / 2 ^ 8 ≡ v / 256 ^ suc j = div-div-eq-div-mul v (256 ^ j) 256 ∙ ap (λ (x : ℕ). v / x) (sym (pow-suc 256 j)) in
    let within : a + 1 + n ≤ length bs' = omega (arith, length-set bs a b) in
    let inner = pasted n (suc j) v (a + 1) bs' within in
    let front : take (a + 1) bs' ≡ take a bs ++ b ∷ [] = take_more_set bs a b (omega arith) in
    let back : drop n (drop (a + 1) bs') ≡ drop (suc n) (drop a bs) = ap (drop n) (drop-set-lt (a + 1) bs a b (omega arith)) ∙ drop-drop n (a + 1) bs ∙ ap (λ k. drop k bs) (omega arith) ∙ sym (drop-drop (suc n) a bs) in
    let tail = bytes_low_first (suc j) n v in
    let joined : take (a + 1) bs' ++ (tail ++ drop n (drop (a + 1) bs')) ≡ take a bs ++ (b ∷ (tail ++ drop (suc n) (drop a bs))) = rw (front, back) (append_assoc (take a bs) (b ∷ []) (tail ++ drop (suc n) (drop a bs))) in
    sym joined ∙ inner ∙ ap (λ x. written (set bs a b) (a + 1) x n) (sym high) ∙ ap (λ x. written (set bs a x) (a + 1) (v / 256 ^ j / 2 ^ 8) n) low

-- the same where the part is lent as a slice of its own
pub pasted_part : (n v a : ℕ) (bs part : List ℕ) → a + n ≤ length bs → part ≡ bytes_low_first 0 n v ++ drop n (take (length bs - a) (drop a bs)) → put_mid a (length bs - a) bs part ≡ written bs a v n
pasted_part n v a bs part h e =
    let past : drop (length bs - a) (drop a bs) ≡ [] = drop_all (length bs - a) (drop a bs) (omega (arith, length-drop a bs)) in
    let done = pasted n 0 v a bs h in
    let rest : take (length bs - a) (drop a bs) ≡ drop a bs = take_rest bs a in
    rw (e, rest, past, append-nil) (done ∙ ap (λ x. written bs a x n) (div-one v))

-- a number cut to the width that is written
pub written_low2 : (bs : List ℕ) (a v : ℕ) → written bs a (v % 65536) 2 ≡ written bs a v 2
written_low2 bs a v =
    let b0 : v % 65536 % 256 ≡ v % 256 = omega arith in
    let b1 : v % 65536 / 256 % 256 ≡ v / 256 % 256 = omega arith in
    rw (b0, b1) refl

pub written_low4 : (bs : List ℕ) (a v : ℕ) → written bs a (v % 4294967296) 4 ≡ written bs a v 4
written_low4 bs a v =
    let b0 : v % 4294967296 % 256 ≡ v % 256 = omega arith in
    let b1 : v % 4294967296 / 256 % 256 ≡ v / 256 % 256 = omega arith in
    let b2 : v % 4294967296 / 256 / 256 % 256 ≡ v / 256 / 256 % 256 = omega arith in
    let b3 : v % 4294967296 / 256 / 256 / 256 % 256 ≡ v / 256 / 256 / 256 % 256 = omega arith in
    rw (b0, b1, b2, b3) refl
