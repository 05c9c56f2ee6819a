-- What is left of lists from an index on.
use Rattle.std.proofs.Common.{◌≡◌, ℕ, ◌+◌, ◌-◌, ◌<◌, ◌≤◌, List, ◌++◌, length, take, drop, map, sym, ap, ◌∙◌, arith}
use Rattle.std.proofs.lemmas.List.{drop-append-le, drop-map, length-map, take_rest}
use Rattle.std.proofs.Math.Seq.{drop-append-add}

-- from an index in the first of two lists
pub rest_within : {X Y : Type 0} (f : X → Y) (xs : List X) (ys all : List Y) (n : ℕ) → n < length xs → all ≡ map f xs ++ ys → map f (take (length xs - n) (drop n xs)) ++ ys ≡ drop n all
rest_within f xs ys all n l e =
    ap (λ us. map f us ++ ys) (take_rest xs n) ∙ ap (λ us. us ++ ys) (sym (drop-map f n xs))
    ∙ sym (drop-append-le n (map f xs) ys (omega (arith, l, length-map xs f))) ∙ ap (drop n) (sym e)

-- from an index after the first of two lists
pub rest_after : {X : Type 0} (xs ys all : List X) (n m : ℕ) → m ≡ length xs → m ≤ n → all ≡ xs ++ ys → drop (n - m) ys ≡ drop n all
rest_after xs ys all n m q l e =
    let index : length xs + (n - m) ≡ n = omega (arith, q, l) in
    sym (ap (drop n) e ∙ ap (λ (k : ℕ). drop k (xs ++ ys)) (sym index) ∙ drop-append-add xs ys (n - m))
