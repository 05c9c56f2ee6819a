-- What is kept is what the definitions keep, each value in its range.
use Rattle.std.proofs.Common.{◌≡◌, ℕ, zero, suc, ◌+◌, ◌<◌, ◌≤◌, List, [], ◌∷◌, ◌++◌, map, take, length, get_or, refl, sym, ap, subst, ◌∙◌, arith}
use Rattle.std.proofs.lemmas.List.{map-append}
use Rattle.recording.specs.Fields.{Field, HaveEach}

-- one more value of a list, each of which is in its range
pub have_one_more : {A : Type 0} (n i k : ℕ) (f : ℕ → Field A) (xs : List A) (x : A) → k ≡ i + n → HaveEach n i f xs → (f k).Has x → HaveEach (suc n) i f (xs ++ x ∷ [])
have_one_more {A} zero i k f [] x e h p =
    let same : k ≡ i = omega (arith, e) in
    (subst (λ (j : ℕ). (f j).Has x) same p, tt)
have_one_more zero i k f (y ∷ ys) x e h p = absurd h
have_one_more (suc n) i k f [] x e h p = absurd h
have_one_more (suc n) i k f (y ∷ ys) x e h p =
    let next : k ≡ suc i + n = omega (arith, e) in
    (h.0, have_one_more n (suc i) k f ys x next h.1 p)

-- the same where the sum is written the other way
pub have_up_to : {A : Type 0} (n i k : ℕ) (f : ℕ → Field A) (xs : List A) (x : A) → k ≡ i + n → HaveEach n i f xs → (f k).Has x → HaveEach (n + 1) i f (xs ++ x ∷ [])
have_up_to n i k f xs x e h p =
    let next : suc n ≡ n + 1 = omega arith in
    subst (λ (m : ℕ). HaveEach m i f (xs ++ x ∷ [])) next (have_one_more n i k f xs x e h p)

take_next : {Y : Type 0} (ys : List Y) (i : ℕ) (d : Y) → i < length ys → take (suc i) ys ≡ take i ys ++ get_or ys i d ∷ []
take_next [] i d l = absurd (omega (arith, l))
take_next (z ∷ ys) zero d l = refl
take_next {Y} (z ∷ ys) (suc i) d l = ap (λ (w : List Y). z ∷ w) (take_next ys i d (omega (arith, l)))

pub take_whole : {Y : Type 0} (ys : List Y) (i : ℕ) → length ys ≤ i → take i ys ≡ ys
take_whole [] zero l = refl
take_whole [] (suc i) l = refl
take_whole (y ∷ ys) zero l = absurd (omega (arith, l))
take_whole {Y} (y ∷ ys) (suc i) l = ap (λ (w : List Y). y ∷ w) (take_whole ys i (omega (arith, l)))

-- the next of a list, seen as what is kept of it
pub one_more_seen : {X Y A : Type 0} (f : X → A) (g : Y → A) (xs : List X) (x : X) (ys : List Y) (i : ℕ) (d : Y) → i < length ys → f x ≡ g (get_or ys i d) → map f xs ≡ map g (take i ys) → map f (xs ++ x ∷ []) ≡ map g (take (i + 1) ys)
one_more_seen {X} {Y} {A} f g xs x ys i d l same before =
    let next : suc i ≡ i + 1 = omega arith in
    map-append f xs (x ∷ [])
    ∙ ap (λ (front : List A). front ++ f x ∷ []) before
    ∙ ap (λ (a : A). map g (take i ys) ++ a ∷ []) same
    ∙ sym (map-append g (take i ys) (get_or ys i d ∷ []))
    ∙ ap (map g) (sym (take_next ys i d l))
    ∙ ap (λ (n : ℕ). map g (take n ys)) next

pub all_seen : {X Y A : Type 0} (f : X → A) (g : Y → A) (xs : List X) (ys : List Y) (i : ℕ) → length ys ≤ i → map f xs ≡ map g (take i ys) → map f xs ≡ map g ys
all_seen f g xs ys i l e = e ∙ ap (map g) (take_whole ys i l)

-- the same of what is seen of a list
pub have_seen : {X A : Type 0} (contents : X → A) (n i k : ℕ) (f : ℕ → Field A) (xs : List X) (x : X) → k ≡ i + n → HaveEach n i f (map contents xs) → (f k).Has (contents x) → HaveEach (n + 1) i f (map contents (xs ++ x ∷ []))
have_seen contents n i k f xs x e h p = rw (map-append contents xs (x ∷ [])) (have_up_to n i k f (map contents xs) (contents x) e h p)
