-- The pages when the parts that they lent come back.
use Rattle.std.proofs.Common.{◌≡◌, ℕ, suc, zero, ◌+◌, ◌*◌, List, [], ◌∷◌, ◌++◌, length, map, take, drop, refl, sym, ap, ◌∙◌, arith}
use Rattle.std.proofs.lemmas.List.{length-map, drop-map, take-map, map-append, append_assoc}
use Rattle.pages.specs.declared.access.Range.{Range}
use Rattle.pages.specs.Flat.{Page, full, flat, is_ready, laid}
use Rattle.pages.specs.Paged.{Paged, with_pages}
use Rattle.pages.proofs.Page.{length-full}
use Rattle.pages.proofs.FlatPages.{length-flat}

pub flat-append : (ps qs : List Page) → flat (ps ++ qs) ≡ flat ps ++ flat qs
flat-append [] qs = refl
flat-append (p ∷ ps) qs = ap (λ r. full p ++ r) (flat-append ps qs) ∙ sym (append_assoc (full p) (flat ps) (flat qs))

take_front : (n m : ℕ) (xs ys : List ℕ) → length xs ≡ m → take (m + n) (xs ++ ys) ≡ xs ++ take n ys
take_front n m [] ys e = ap (λ k. take k ys) (omega (arith, e))
take_front n zero (x ∷ xs) ys e = cc
take_front n (suc m) (x ∷ xs) ys e =
    let next : suc m + n ≡ suc (m + n) = omega arith in
    ap (λ k. take k (x ∷ (xs ++ ys))) next ∙ ap (λ r. x ∷ r) (take_front n m xs ys (omega (arith, e)))

drop_front : (n m : ℕ) (xs ys : List ℕ) → length xs ≡ m → drop (m + n) (xs ++ ys) ≡ drop n ys
drop_front n m [] ys e = ap (λ k. drop k ys) (omega (arith, e))
drop_front n zero (x ∷ xs) ys e = cc
drop_front n (suc m) (x ∷ xs) ys e =
    let next : suc m + n ≡ suc (m + n) = omega arith in
    ap (λ k. drop k (x ∷ (xs ++ ys))) next ∙ drop_front n m xs ys (omega (arith, e))

flat-take : (n : ℕ) (ps : List Page) → flat (take n ps) ≡ take (4096 * n) (flat ps)
flat-take zero ps = let none : 0 ≡ 4096 * 0 = omega arith in ap (λ k. take k (flat ps)) none
flat-take (suc n) [] = sym (ap (λ k. take k (flat [])) (next n))
  where
    next : (n : ℕ) → 4096 * suc n ≡ suc (4095 + 4096 * n)
    next n = omega arith
flat-take (suc n) (p ∷ ps) =
    let more : 4096 + 4096 * n ≡ 4096 * suc n = omega arith in
    ap (λ r. full p ++ r) (flat-take n ps) ∙ sym (take_front (4096 * n) 4096 (full p) (flat ps) (length-full p)) ∙ ap (λ k. take k (full p ++ flat ps)) more

flat-drop : (n : ℕ) (ps : List Page) → flat (drop n ps) ≡ drop (4096 * n) (flat ps)
flat-drop zero ps = let none : 0 ≡ 4096 * 0 = omega arith in ap (λ k. drop k (flat ps)) none
flat-drop (suc n) [] = sym (ap (λ k. drop k (flat [])) (next n))
  where
    next : (n : ℕ) → 4096 * suc n ≡ suc (4095 + 4096 * n)
    next n = omega arith
flat-drop (suc n) (p ∷ ps) =
    let more : 4096 + 4096 * n ≡ 4096 * suc n = omega arith in
    flat-drop n ps ∙ sym (drop_front (4096 * n) 4096 (full p) (flat ps) (length-full p)) ∙ ap (λ k. drop k (full p ++ flat ps)) more

flat-laid : (ps qs : List Page) → flat (laid ps qs) ≡ laid (flat ps) (flat qs)
flat-laid ps qs =
    flat-take (length ps) (qs ++ drop (length qs) ps)
    ∙ ap (λ k. take k (flat (qs ++ drop (length qs) ps))) (sym (length-flat ps))
    ∙ ap (take (length (flat ps))) (flat-append qs (drop (length qs) ps) ∙ ap (λ r. flat qs ++ r) (flat-drop (length qs) ps ∙ ap (λ k. drop k (flat ps)) (sym (length-flat qs))))

map-laid : {X Y : Type 0} (f : X → Y) (ps qs : List X) → map f (laid ps qs) ≡ laid (map f ps) (map f qs)
map-laid f ps qs =
    sym (take-map f (length ps) (qs ++ drop (length qs) ps))
    ∙ ap (λ k. take k (map f (qs ++ drop (length qs) ps))) (sym (length-map ps f))
    ∙ ap (take (length (map f ps))) (map-append f qs (drop (length qs) ps) ∙ ap (λ r. map f qs ++ r) (sym (drop-map f (length qs) ps) ∙ ap (λ k. drop k (map f ps)) (sym (length-map qs f))))

-- pages that come back into their vector
pub given_back : (ps qs : List Page) (n s : ℕ) (code : List Range) → n ≡ length ps → let r : Paged = record { memory = record { bytes = flat (take n (qs ++ drop (length qs) ps)); code = code }; ready = map is_ready (take n (qs ++ drop (length qs) ps)); spare = s } in r ≡ with_pages (record { memory = record { bytes = flat ps; code = code }; ready = map is_ready ps; spare = s }) qs
given_back ps qs n s code e = rw (e, flat-laid ps qs, map-laid is_ready ps qs) refl
