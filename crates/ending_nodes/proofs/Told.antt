-- Lists as they are told, one element more.
use Rattle.std.proofs.Common.{◌≡◌, ℕ, zero, suc, ◌+◌, ◌<◌, ◌≤◌, List, [], ◌∷◌, ◌++◌, length, map, take, get_or, Contains, sym, ap, ◌∙◌, subst, inl, inr, arith}
use Rattle.std.proofs.Math.Seq.{get_or-append_seam}
use Rattle.std.proofs.lemmas.List.{get_or-map, get_or_append_left, get_or_past, length-map, take_more}
use Rattle.std.proofs.lemmas.List.Elements.{Contains-push_cases}
use Rattle.hart_ends.proofs.Told.{pushed}

pub told_before : {X Y : Type 0} (f : X → Y) (xs ys : List X) (v : X) (h : ℕ) (d : Y) → ys ≡ xs ++ v ∷ [] → h < length xs → get_or (map f ys) h d ≡ get_or (map f xs) h d
told_before f xs ys v h d e l =
    ap (λ zs. get_or zs h d) (pushed f xs ys v e) ∙ get_or_append_left (map f xs) (f v ∷ []) d h (let n = length-map xs f in omega (arith, l, n))

pub told_last : {X Y : Type 0} (f : X → Y) (xs ys : List X) (v : X) (h : ℕ) (d : Y) → ys ≡ xs ++ v ∷ [] → h ≡ length xs → get_or (map f ys) h d ≡ f v
told_last f xs ys v h d e at =
    ap (λ zs. get_or zs h d) (pushed f xs ys v e)
    ∙ (ap (λ (k : ℕ). get_or (map f xs ++ f v ∷ []) k d) (let n = length-map xs f in let s : h ≡ length (map f xs) = omega (arith, at, n) in s)
    ∙ get_or-append_seam (map f xs) (f v) [] d)

-- where one stands
pub told_here : {X Y : Type 0} (f : X → Y) (xs : List X) (h : ℕ) (v d : X) (e : Y) → h < length xs → v ≡ get_or xs h d → get_or (map f xs) h e ≡ f v
told_here f xs h v d e l at = get_or-map f xs h d e l ∙ ap f (sym at)

-- past the end
pub told_past : {X Y : Type 0} (f : X → Y) (xs : List X) (h : ℕ) (e : Y) → length xs ≤ h → get_or (map f xs) h e ≡ e
told_past f xs h e l = get_or_past (map f xs) h e (let n = length-map xs f in omega (arith, l, n))

-- a copy grows along
pub copied_more : {X Y : Type 0} (f : X → Y) (xs old new : List X) (i : ℕ) (x y d : X) → i < length xs → y ≡ get_or xs i d → new ≡ old ++ x ∷ [] → f x ≡ f y → map f old ≡ map f (take i xs) →
    map f new ≡ map f (take (i + 1) xs)
copied_more f xs old new i x y d l at grown same so =
    pushed f old new x grown
    ∙ (ap (λ zs. zs ++ f x ∷ []) so
    ∙ (ap (λ z. map f (take i xs) ++ z ∷ []) same ∙ sym (pushed f (take i xs) (take (i + 1) xs) y (take_more xs i d l ∙ ap (λ z. take i xs ++ z ∷ []) (sym at)))))

-- what holds of those so far, and of the next one
pub each_more : {X Y : Type 0} (f : X → Y) (P : Y → Type 0) (xs : List X) (i : ℕ) (x d : X) → i < length xs → x ≡ get_or xs i d → P (f x) → ((y : Y) → Contains (map f (take i xs)) y → P y) →
    (y : Y) → Contains (map f (take (i + 1) xs)) y → P y
each_more f P xs i x d l at here before y there =
    elim (Contains-push_cases (map f (take i xs)) (f x) y (subst (λ zs. Contains zs y) (pushed f (take i xs) (take (i + 1) xs) x (take_more xs i d l ∙ ap (λ z. take i xs ++ z ∷ []) (sym at))) there)) [
      | inl early ↦ before y early
      | inr now ↦ subst P now here
    ]

pub none_in : {X : Type 0} (s : X) → Contains [] s → ⊥
none_in s there = let l = there.1 in omega (arith, l)

single_at : {X : Type 0} (x p : X) (k : ℕ) → k < length (x ∷ []) → get_or (x ∷ []) k p ≡ p → x ≡ p
single_at x p zero l e = e
single_at x p (suc k) l e = absurd (omega (arith, l))

-- the only one
pub single : {X : Type 0} (x p : X) → Contains (x ∷ []) p → x ≡ p
single x p there = single_at x p there.0 there.1 there.2

pub told_at_index : {X Y : Type 0} (f : X → Y) (xs : List X) (h : ℕ) (v : X) → h < length xs → v ≡ get_or xs h v → Contains (map f xs) (f v)
told_at_index f xs h v l at = (h, (let n = length-map xs f in omega (arith, l, n)), told_here f xs h v v (f v) l at)
