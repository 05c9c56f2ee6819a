-- What is kept of the bytes that a hart has touched, one record after another.
use Rattle.std.proofs.Common.{◌≡◌, ◌≢◌, ℕ, suc, zero, ◌+◌, ◌<◌, ◌==◌, Bool, true, false, if◌then◌else◌, List, [], ◌∷◌, ◌++◌, length, get_or, set, refl, sym, ap, ◌∙◌, arith}
use Rattle.std.proofs.lemmas.Bool.{eqb-true, ne_eqb}
use Rattle.run_bounds.specs.declared.touched.TouchedByte.{TouchedByte}
use Rattle.run_bounds.specs.Touched.{known_at}

pick : (p q : Bool) (c b k : TouchedByte) → (p ≡ true → q ≡ false) → (if p then c else (if q then b else k)) ≡ (if q then b else (if p then c else k))
pick true true c b k n = absurd (let f = n refl in cc)
pick true false c b k n = refl
pick false q c b k n = refl

other : (c b x : ℕ) → c ≢ b → (c == x) ≡ true → (b == x) ≡ false
other c b x n e = ne_eqb b x (λ d. n (eqb-true c x e ∙ sym d))

same : (p q : Bool) (c b k : TouchedByte) → p ≡ q → (if q then b else k) ≡ (if q then b else (if p then c else k))
same true true c b k e = refl
same true false c b k e = absurd (cc)
same false q c b k e = refl

-- no record before an index is of the address
abbrev pub NoneBefore : List TouchedByte → ℕ → ℕ → Type 0
NoneBefore bs i x = (k : ℕ) (c : TouchedByte) → k < i → c ≡ get_or bs k c → c.address ≢ x

pub known_set : (bs : List TouchedByte) (i : ℕ) (b : TouchedByte) (x : ℕ) → i < length bs → NoneBefore bs i b.address →
    (c : TouchedByte) → c ≡ get_or bs i c → c.address ≡ b.address → known_at (set bs i b) x ≡ (if b.address == x then b else known_at bs x)
known_set [] i b x l n c e s = absurd (omega (arith, l))
known_set (d ∷ bs) zero b x l n c e s = same (d.address == x) (b.address == x) d b (known_at bs x) (ap (λ (y : TouchedByte). y.address == x) (sym e) ∙ ap (λ (y : ℕ). y == x) s)
known_set (d ∷ bs) (suc i) b x l n c e s =
    ap (λ (k : TouchedByte). if d.address == x then d else k) (known_set bs i b x (omega (arith, l)) (λ k y m. n (suc k) y (omega (arith, m))) c e s)
    ∙ pick (d.address == x) (b.address == x) d b (known_at bs x) (other d.address b.address x (n 0 d (omega arith) refl))

pub known_push : (bs : List TouchedByte) (b : TouchedByte) (x : ℕ) → NoneBefore bs (length bs) b.address → known_at (bs ++ b ∷ []) x ≡ (if b.address == x then b else known_at bs x)
known_push [] b x n = refl
known_push (d ∷ bs) b x n =
    ap (λ (k : TouchedByte). if d.address == x then d else k) (known_push bs b x (λ k y m. n (suc k) y (omega (arith, m))))
    ∙ pick (d.address == x) (b.address == x) d b (known_at bs x) (other d.address b.address x (n 0 d (omega arith) refl))
