-- Two lists that grow side by side, and what is written back over a list.
use Rattle.std.proofs.Common.{◌≡◌, ◌∙◌, ℕ, ◌+◌, ◌<◌, List, [], ◌∷◌, ◌++◌, length, map, get_or, take, drop, ap, ap₂, refl, sym}
use Rattle.std.proofs.Math.Seq.{drop-length, take-length}
use Rattle.std.proofs.lemmas.List.{append-nil, take_more}

pushed : {A C : Type 0} (f : A → C) (xs : List A) (x : A) → map f (xs ++ x ∷ []) ≡ map f xs ++ f x ∷ []
pushed f [] x = refl
pushed f (y ∷ ys) x = ap (λ zs. f y ∷ zs) (pushed f ys x)

pub one_more : {A B C : Type 0} (f : A → C) (g : B → C) (xs : List A) (ys : List B) (i : ℕ) (x : A) (y : B) → i < length ys → y ≡ get_or ys i y → f x ≡ g y →
    map f xs ≡ map g (take i ys) → map f (xs ++ x ∷ []) ≡ map g (take (i + 1) ys)
one_more f g xs ys i x y l is same was =
    pushed f xs x ∙ ap₂ (λ zs z. zs ++ z ∷ []) was (same ∙ ap g is) ∙ sym (ap (map g) (take_more ys i y l) ∙ pushed g (take i ys) (get_or ys i y))

pub written_back : {A : Type 0} (n : ℕ) (new old : List A) → n ≡ length old → length new ≡ length old → take n (new ++ drop (length new) old) ≡ new
written_back n new old long same =
    ap (λ (k : ℕ). take n (new ++ drop k old)) same ∙ ap (λ rest. take n (new ++ rest)) (drop-length old)
    ∙ ap (take n) (append-nil new) ∙ ap (λ (k : ℕ). take k new) (long ∙ sym same) ∙ take-length new
