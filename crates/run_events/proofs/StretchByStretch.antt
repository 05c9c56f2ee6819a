-- Lists that are gone through stretch by stretch.
use Rattle.std.proofs.Common.{◌≡◌, ℕ, suc, zero, ◌+◌, ◌<◌, ◌≤◌, Option, None, Bool, true, false, List, [], ◌∷◌, ◌++◌, All, length, drop, take, get_or, map, refl, sym, ap, subst, ◌∙◌, append_assoc, append-nil, arith}
use Rattle.std.specs.List.{prefix_len}
use Rattle.std.proofs.lemmas.List.{drop_all, map-append, take-append-drop}
use Rattle.std.proofs.lemmas.List.Elements.{All-cons, All-head, All-nil, All-tail}
use Rattle.moments.proofs.PcsFound.{drop_both}

abbrev none_of : {A : Type 0} → Option A
none_of = None

-- ---- what a list is mapped to, told so far and left

pub told_on : {X A : Type 0} (f : X → A) (xs : List X) (k n : ℕ) (front old new : List A) → old ++ map f (drop k xs) ≡ front ++ map f xs → new ≡ old ++ map f (take n (drop k xs)) → new ++ map f (drop (k + n) xs) ≡ front ++ map f xs
told_on f xs k n front old new told added =
    ap (λ z. z ++ map f (drop (k + n) xs)) added
    ∙ append_assoc old (map f (take n (drop k xs))) (map f (drop (k + n) xs))
    ∙ ap (λ z. old ++ (map f (take n (drop k xs)) ++ map f z)) (drop_both k n xs)
    ∙ ap (λ z. old ++ z) (sym (map-append f (take n (drop k xs)) (drop n (drop k xs))) ∙ ap (map f) (take-append-drop n (drop k xs)))
    ∙ told

pub told_all : {X A : Type 0} (f : X → A) (xs : List X) (k : ℕ) (front now : List A) → length xs ≤ k → now ++ map f (drop k xs) ≡ front ++ map f xs → now ≡ front ++ map f xs
told_all f xs k front now le told = sym (append-nil now) ∙ ap (λ z. now ++ map f z) (sym (drop_all k xs le)) ∙ told

-- one more of a list for which there is none
snoc_none : {X A : Type 0} (es : List X) (k : ℕ) → k < length es → map (λ (x : X). none_of {A = A}) (take k es) ++ None ∷ [] ≡ map (λ (x : X). none_of) (take (k + 1) es)
snoc_none [] k lt = absurd (omega (arith, lt))
snoc_none (e ∷ es) zero lt = refl
snoc_none (e ∷ es) (suc k) lt = let n : suc k + 1 ≡ suc (k + 1) = omega arith in rw n (ap (λ ys. None ∷ ys) (snoc_none es k (omega (arith, lt))))

pub none_more : {X A : Type 0} (es : List X) (k : ℕ) (front old new : List (Option A)) → k < length es → old ≡ front ++ map (λ (x : X). none_of) (take k es) → new ≡ old ++ None ∷ [] → new ≡ front ++ map (λ (x : X). none_of) (take (k + 1) es)
none_more es k front old new lt o n =
    n ∙ ap (λ z. z ++ None ∷ []) o ∙ append_assoc front (map (λ x. none_of) (take k es)) (None ∷ []) ∙ ap (λ z. front ++ z) (snoc_none es k lt)

-- two functions that agree on a list
pub same_on : {X A : Type 0} (f g : X → A) (xs : List X) → All (λ x. f x ≡ g x) xs → map f xs ≡ map g xs
same_on f g [] all = refl
same_on f g (x ∷ xs) all =
    ap (λ z. z ∷ map f xs) (All-head (λ y. f y ≡ g y) x xs all) ∙ ap (λ z. g x ∷ z) (same_on f g xs (All-tail (λ y. f y ≡ g y) x xs all))

-- ---- how far a list passes a test

pub counts_first : {X : Type 0} (p : X → Bool) (xs : List X) (d : X) → 1 ≤ length xs → p (get_or xs 0 d) ≡ true → 1 ≤ prefix_len p xs
counts_first p [] d some t = absurd (omega (arith, some))
counts_first p (x ∷ xs) d some t = rw t (omega arith)

front_by : {X : Type 0} (p : X → Bool) (x : X) (xs : List X) (b : Bool) → p x ≡ b → All (λ y. p y ≡ true) (take (prefix_len p xs) xs) → All (λ y. p y ≡ true) (take (prefix_len p (x ∷ xs)) (x ∷ xs))
front_by {X} p x xs true t all =
    let more : prefix_len p (x ∷ xs) ≡ suc (prefix_len p xs) = rw t (omega arith) in
    subst (λ (k : ℕ). All (λ (y : X). p y ≡ true) (take k (x ∷ xs))) (sym more) (All-cons (λ y. p y ≡ true) x (take (prefix_len p xs) xs) t all)
front_by {X} p x xs false t all =
    let none : prefix_len p (x ∷ xs) ≡ 0 = rw t refl in
    subst (λ (k : ℕ). All (λ (y : X). p y ≡ true) (take k (x ∷ xs))) (sym none) (All-nil (λ y. p y ≡ true))

pub front_passes : {X : Type 0} (p : X → Bool) (xs : List X) → All (λ x. p x ≡ true) (take (prefix_len p xs) xs)
front_passes p [] = All-nil (λ x. p x ≡ true)
front_passes p (x ∷ xs) = front_by p x xs (p x) refl (front_passes p xs)
