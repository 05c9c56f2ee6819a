-- Lists as they are told.
use Rattle.std.proofs.Common.{◌≡◌, ℕ, zero, suc, ◌+◌, ◌<◌, List, [], ◌∷◌, ◌++◌, length, map, take, get_or, Contains, refl, sym, ap, ◌∙◌, subst, arith}
use Rattle.std.proofs.lemmas.List.{map-append, take_more}
use Rattle.std.proofs.lemmas.List.Elements.{Contains-append_left, Contains-push}

pub pushed : {X Y : Type 0} (f : X → Y) (xs ys : List X) (v : X) → ys ≡ xs ++ v ∷ [] → map f ys ≡ map f xs ++ f v ∷ []
pushed f xs ys v e = ap (map f) e ∙ map-append f xs (v ∷ [])

-- what was told is told of one more, and so is what came
pub kept : {X Y : Type 0} (f : X → Y) (xs ys : List X) (v : X) (y : Y) → ys ≡ xs ++ v ∷ [] → Contains (map f xs) y → Contains (map f ys) y
kept f xs ys v y e c = subst (λ zs. Contains zs y) (sym (pushed f xs ys v e)) (Contains-append_left (map f xs) (f v ∷ []) y c)

pub new : {X Y : Type 0} (f : X → Y) (xs ys : List X) (v : X) (y : Y) → ys ≡ xs ++ v ∷ [] → f v ≡ y → Contains (map f ys) y
new f xs ys v y e same = subst (λ zs. Contains zs y) (sym (pushed f xs ys v e)) (subst (λ z. Contains (map f xs ++ f v ∷ []) z) same (Contains-push (map f xs) (f v)))

-- what is told is of an element
told_at : {X Y : Type 0} (f : X → Y) (xs : List X) (y : Y) (k : ℕ) → k < length (map f xs) → get_or (map f xs) k y ≡ y → (x : X) × Contains xs x × (f x ≡ y)
told_at f [] y k l e = absurd (omega (arith, l))
told_at f (x ∷ xs) y zero l e = (x, (0, omega arith, refl), e)
told_at f (x ∷ xs) y (suc k) l e =
    let r = told_at f xs y k (omega (arith, l)) e in
    let m = r.1.1 in
    (r.0, (suc r.1.0, omega (arith, m), r.1.2), r.2)

pub told_by : {X Y : Type 0} (f : X → Y) (xs : List X) (y : Y) → Contains (map f xs) y → (x : X) × Contains xs x × (f x ≡ y)
told_by f xs y c = told_at f xs y c.0 c.1 c.2

-- two lists that are told the same so far, and so are their next elements
pub told_more : {X Y : Type 0} (f : X → Y) (a b : List X) (i : ℕ) (x y : X) → i < length a → i < length b → x ≡ get_or a i x → y ≡ get_or b i y → f x ≡ f y →
    map f (take i a) ≡ map f (take i b) → map f (take (i + 1) a) ≡ map f (take (i + 1) b)
told_more f a b i x y l m at bt same so =
    pushed f (take i a) (take (i + 1) a) x (take_more a i x l ∙ ap (λ z. take i a ++ z ∷ []) (sym at)) ∙
    (ap (λ zs. zs ++ f x ∷ []) so ∙ (ap (λ z. map f (take i b) ++ z ∷ []) same ∙
    sym (pushed f (take i b) (take (i + 1) b) y (take_more b i y m ∙ ap (λ z. take i b ++ z ∷ []) (sym bt)))))
