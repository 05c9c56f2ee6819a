use Rattle.std.proofs.Common.{◌≡◌, ℕ, zero, suc, ◌<◌, List, [], ◌∷◌, length, map, take, get_or, Option, None, Some, refl, sym, ap, ◌∙◌, ◌≤◌, arith, rules}
use Rattle.run_places.proofs.following.known_bytes.Goals as goal

-- known bytes have no unknown one among them, and are known as one list
none_at : (bs : List ℕ) (i : ℕ) (d : Option ℕ) → i < length (map (λ (b : ℕ). Some b) bs) → get_or (map (λ (b : ℕ). Some b) bs) i d ≡ None → ⊥
none_at [] i d l e = omega (arith, l)
none_at (b ∷ bs) zero d l e = cc
none_at (b ∷ bs) (suc i) d l e = none_at bs i d (omega (arith, l)) e

one_list : (xs bs : List ℕ) → map (λ (b : ℕ). Some b) xs ≡ map (λ (b : ℕ). Some b) bs → xs ≡ bs
one_list [] [] e = refl
one_list [] (b ∷ bs) e = absurd (cc)
one_list (a ∷ xs) [] e = absurd (cc)
one_list (a ∷ xs) (b ∷ bs) e =
    let rest : map (λ (b : ℕ). Some b) xs ≡ map (λ (b : ℕ). Some b) bs = cc in
    let more = one_list xs bs rest in
    let first : Some a ≡ Some b = cc in
    cc

whole : (i : ℕ) (os : List (Option ℕ)) → length os ≤ i → take i os ≡ os
whole zero [] l = refl
whole (suc i) [] l = refl
whole zero (o ∷ os) l = absurd (omega (arith, l))
whole (suc i) (o ∷ os) l = ap (λ (ps : List (Option ℕ)). o ∷ ps) (whole i os (omega (arith, l)))

pub returns-in-None : goal.returns-in-None
returns-in-None c = λ bs e.
    let i = c.loop-byte.byte-index in
    let small = c.loop-byte-test.true in
    none_at bs i None (let l = ap (λ (os : List (Option ℕ)). length os) e in omega (arith, l, small))
    (ap (λ (os : List (Option ℕ)). get_or os i None) (sym e) ∙ (let o = c.in-None.is in search rules))

pub returns : goal.returns
returns c = λ bs e.
    let over = c.loop-byte-test.false in
    one_list c.loop-byte.bytes.items bs (c.loop-byte.invariant ∙ (whole c.loop-byte.byte-index c.args.output.now (omega (arith, over)) ∙ e))
