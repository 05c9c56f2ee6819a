-- Pages end to end.
use Rattle.std.proofs.Common.{◌≡◌, ℕ, zero, suc, ◌+◌, ◌*◌, ◌/◌, ◌%◌, ◌^◌, ◌<◌, ◌≤◌, List, [], ◌∷◌, ◌++◌, length, get_or, set, refl, sym, ap, ◌∙◌, arith}
use Rattle.std.proofs.lemmas.List.{length-append, length-set, get_or_append_left, get_or-append-add, set-append_left, set-append_right}
use Rattle.std.proofs.lemmas.List.Elements.{All-from_get_or, All-append, All-nil}
use Rattle.pages.specs.Flat.{Page, absent, blank, full, flat}
use Rattle.pages.specs.Memory.{number_at, written, IsBytes}
use Rattle.pages.proofs.Page.{length-full, get_or-full}

pub length-flat : (ps : List Page) → length (flat ps) ≡ 4096 * length ps
length-flat [] = refl
length-flat (p ∷ ps) = omega (arith, length-append (full p) (flat ps), length-full p, length-flat ps)

-- a byte of a page
pub flat_at : (ps : List Page) (i k : ℕ) → i < length ps → k < 4096 → get_or (flat ps) (4096 * i + k) 0 ≡ get_or (full (get_or ps i absent)) k 0
flat_at [] i k l h = absurd (omega arith)
flat_at (p ∷ ps) zero k l h =
    let place : 4096 * 0 + k ≡ k = omega arith in
    ap (λ n. get_or (full p ++ flat ps) n 0) place ∙ get_or_append_left (full p) (flat ps) 0 k (omega (arith, length-full p))
flat_at (p ∷ ps) (suc i) k l h =
    let place : 4096 * suc i + k ≡ length (full p) + (4096 * i + k) = omega (arith, length-full p) in
    ap (λ n. get_or (full p ++ flat ps) n 0) place ∙ get_or-append-add (full p) (flat ps) (4096 * i + k) 0 ∙ flat_at ps i k (omega arith) h

-- a number within one page
number_in : (n : ℕ) (ps : List Page) (i k : ℕ) → i < length ps → k + n ≤ 4096 → number_at (flat ps) (4096 * i + k) n ≡ number_at (full (get_or ps i absent)) k n
number_in zero ps i k l h = refl
number_in (suc n) ps i k l h =
    let byte = flat_at ps i k l (omega arith) in
    let next : 4096 * i + k + 1 ≡ 4096 * i + (k + 1) = omega arith in
    let rest = number_in n ps i (k + 1) l (omega arith) in
    rw (byte, next, rest) refl

pub number_in_page : (n : ℕ) (ps : List Page) (a : ℕ) → a / 4096 < length ps → a % 4096 + n ≤ 4096 → number_at (full (get_or ps (a / 4096) absent)) (a % 4096) n ≡ number_at (flat ps) a n
number_in_page n ps a l h =
    let split : a ≡ 4096 * (a / 4096) + a % 4096 = omega arith in
    sym (ap (λ x. number_at (flat ps) x n) split ∙ number_in n ps (a / 4096) (a % 4096) l h)

written-append_left : (n : ℕ) (xs ys : List ℕ) (a v : ℕ) → a + n ≤ length xs → written (xs ++ ys) a v n ≡ written xs a v n ++ ys
written-append_left zero xs ys a v h = refl
written-append_left (suc n) xs ys a v h =
    let b = v % 2 ^ 8 in
    ap (λ zs. written zs (a + 1) (v / 2 ^ 8) n) (set-append_left xs ys a b (omega arith))
    ∙ written-append_left n (set xs a b) ys (a + 1) (v / 2 ^ 8) (omega (arith, length-set xs a b))

written-append_right : (n : ℕ) (xs ys : List ℕ) (a v m : ℕ) → length xs ≡ m → written (xs ++ ys) (m + a) v n ≡ xs ++ written ys a v n
written-append_right zero xs ys a v m e = refl
written-append_right (suc n) xs ys a v m e =
    let b = v % 2 ^ 8 in
    let here : set (xs ++ ys) (m + a) b ≡ xs ++ set ys a b = set-append_right xs ys m (m + a) b e (omega arith) ∙ ap (λ k. xs ++ set ys k b) (omega arith) in
    let next : m + a + 1 ≡ m + (a + 1) = omega arith in
    ap (λ zs. written zs (m + a + 1) (v / 2 ^ 8) n) here
    ∙ ap (λ k. written (xs ++ set ys a b) k (v / 2 ^ 8) n) next
    ∙ written-append_right n xs (set ys a b) (a + 1) (v / 2 ^ 8) m e

-- a write within one page
pub flat-set : (ps : List Page) (i k v n : ℕ) (q : Page) → i < length ps → k + n ≤ 4096 → full q ≡ written (full (get_or ps i absent)) k v n → flat (set ps i q) ≡ written (flat ps) (4096 * i + k) v n
flat-set [] i k v n q l h e = absurd (omega arith)
flat-set (p ∷ ps) zero k v n q l h e =
    let place : k ≡ 4096 * 0 + k = omega arith in
    ap (λ zs. zs ++ flat ps) e ∙ sym (written-append_left n (full p) (flat ps) k v (omega (arith, length-full p))) ∙ ap (λ x. written (full p ++ flat ps) x v n) place
flat-set (p ∷ ps) (suc i) k v n q l h e =
    let place : 4096 + (4096 * i + k) ≡ 4096 * suc i + k = omega arith in
    ap (λ zs. full p ++ zs) (flat-set ps i k v n q (omega arith) h e)
    ∙ sym (written-append_right n (full p) (flat ps) (4096 * i + k) v 4096 (length-full p))
    ∙ ap (λ x. written (full p ++ flat ps) x v n) place

-- a page in the place of one with equal bytes
pub flat-set_same : (ps : List Page) (i : ℕ) (q : Page) → i < length ps → full q ≡ full (get_or ps i absent) → flat (set ps i q) ≡ flat ps
flat-set_same ps i q l e = flat-set ps i 0 0 0 q l (omega arith) e

low_byte : (b : ℕ) → b % 2 ^ 8 < 2 ^ 8
low_byte b = omega arith

fits-full : (p : Page) → IsBytes (full p)
fits-full p = All-from_get_or (λ b. b < 2 ^ 8) (full p) 0 (λ i h. rw (get_or-full p i (omega (arith, length-full p))) (low_byte (get_or (p.bytes ++ blank) i 0)))

pub fits-flat : (ps : List Page) → IsBytes (flat ps)
fits-flat [] = All-nil (λ b. b < 2 ^ 8)
fits-flat (p ∷ ps) = All-append (λ b. b < 2 ^ 8) (full p) (flat ps) (fits-full p) (fits-flat ps)
