-- Parts written one after the other.
use Rattle.std.proofs.Common.{◌≡◌, ℕ, zero, suc, ◌+◌, ◌<◌, ◌≤◌, List, [], ◌∷◌, ◌++◌, length, get_or, drop, map, refl, sym, ap, ◌∙◌, arith, append_assoc, add-one}
use Rattle.std.specs.Prelude.{OnOk, Result, Ok, Err}
use Rattle.std.proofs.lemmas.List.{append-nil, length-map}
use Rattle.execution_file.specs.Formats.{Format, spelled_each, spelled_list}

pub assoc : {A : Type 0} (xs ys zs : List A) → xs ++ ys ++ zs ≡ xs ++ (ys ++ zs)
assoc xs ys zs = append_assoc xs ys zs

-- the items from one on are that one and those after it
pub rest_of : {X Y : Type 0} (f : X → Y) (xs : List X) (i : ℕ) (x other : X) → i < length xs → x ≡ get_or xs i other → drop i (map f xs) ≡ f x ∷ drop (suc i) (map f xs)
rest_of f [] i x other low e = absurd (omega (arith, low))
rest_of f (y ∷ ys) zero x other low e = ap (λ z. f z ∷ map f ys) (sym e)
rest_of f (y ∷ ys) (suc i) x other low e = rest_of f ys i x other (omega (arith, low)) e

pub drop_all : {X : Type 0} (xs : List X) (i : ℕ) → length xs ≤ i → drop i xs ≡ []
drop_all [] zero low = refl
drop_all [] (suc i) low = refl
drop_all (x ∷ xs) zero low = absurd (omega (arith, low))
drop_all (x ∷ xs) (suc i) low = drop_all xs i (omega (arith, low))

-- with one more item written, the rest is still to be written
pub one_more : {X A : Type 0} (f : ℕ → Format A) (contents : X → A) (xs : List X) (i j k : ℕ) (x other : X) (text new total : List ℕ) → i < length xs → x ≡ get_or xs i other → k ≡ suc j → new ≡ text ++ (f j).spelled (contents x) →
    text ++ spelled_each j f (drop i (map contents xs)) ≡ total → new ++ spelled_each k f (drop (i + 1) (map contents xs)) ≡ total
one_more {X} {A} f contents xs i j k x other text new total low e next written so_far =
    let after : drop (suc i) (map contents xs) ≡ drop (i + 1) (map contents xs) = ap (λ (n : ℕ). drop n (map contents xs)) (sym (add-one i)) in
    ap (λ (t : List ℕ). t ++ spelled_each k f (drop (i + 1) (map contents xs))) written
    ∙ append_assoc text ((f j).spelled (contents x)) (spelled_each k f (drop (i + 1) (map contents xs)))
    ∙ ap (λ (n : ℕ). text ++ ((f j).spelled (contents x) ++ spelled_each n f (drop (i + 1) (map contents xs)))) next
    ∙ ap (λ (ys : List A). text ++ ((f j).spelled (contents x) ++ spelled_each (suc j) f ys)) (sym after)
    ∙ ap (λ (ys : List A). text ++ spelled_each j f ys) (sym (rest_of contents xs i x other low e))
    ∙ so_far

-- one part, and then the rest
pub then_written : (t new a rest last : List ℕ) → new ≡ t ++ a → last ≡ new ++ rest → last ≡ t ++ (a ++ rest)
then_written t new a rest last e f = f ∙ ap (λ (s : List ℕ). s ++ rest) e ∙ append_assoc t a rest

pub on_ok : {E : Type 0} (r : Result (Unit {0}) E) (P Q : Type 0) → (P → Q) → OnOk r P → OnOk r Q
on_ok (Ok v) P Q f h = f h
on_ok (Err e) P Q f h = tt

-- with all items written, nothing is left to write
pub all_written : {X A : Type 0} (f : ℕ → Format A) (contents : X → A) (xs : List X) (i j : ℕ) (text total : List ℕ) → length xs ≤ i → text ++ spelled_each j f (drop i (map contents xs)) ≡ total → text ≡ total
all_written {X} {A} f contents xs i j text total low e =
    let none : drop i (map contents xs) ≡ [] = drop_all (map contents xs) i (omega (arith, low, length-map xs contents)) in
    sym (append-nil text) ∙ sym (ap (λ (ys : List A). text ++ spelled_each j f ys) none) ∙ e

-- with one more item of a line written, the rest of the line is still to be written
pub list_more : {X A : Type 0} (f : Format A) (contents : X → A) (xs : List X) (i : ℕ) (x other : X) (text blank new total : List ℕ) → i < length xs → x ≡ get_or xs i other → blank ≡ text ++ 32 ∷ [] → new ≡ blank ++ f.spelled (contents x) →
    text ++ spelled_list f (drop i (map contents xs)) ≡ total → new ++ spelled_list f (drop (i + 1) (map contents xs)) ≡ total
list_more {X} {A} f contents xs i x other text blank new total low e first second so_far =
    let after : drop (suc i) (map contents xs) ≡ drop (i + 1) (map contents xs) = ap (λ (n : ℕ). drop n (map contents xs)) (sym (add-one i)) in
    ap (λ (t : List ℕ). t ++ spelled_list f (drop (i + 1) (map contents xs))) (second ∙ ap (λ (t : List ℕ). t ++ f.spelled (contents x)) first ∙ append_assoc text (32 ∷ []) (f.spelled (contents x)))
    ∙ append_assoc text (32 ∷ f.spelled (contents x)) (spelled_list f (drop (i + 1) (map contents xs)))
    ∙ ap (λ (ys : List A). text ++ (32 ∷ f.spelled (contents x) ++ spelled_list f ys)) (sym after)
    ∙ ap (λ (ys : List A). text ++ spelled_list f ys) (sym (rest_of contents xs i x other low e))
    ∙ so_far

-- with all items written, the line ends
pub list_ended : {X A : Type 0} (f : Format A) (contents : X → A) (xs : List X) (i : ℕ) (text new total : List ℕ) → length xs ≤ i → new ≡ text ++ 10 ∷ [] → text ++ spelled_list f (drop i (map contents xs)) ≡ total → new ≡ total
list_ended {X} {A} f contents xs i text new total low last e =
    let none : drop i (map contents xs) ≡ [] = drop_all (map contents xs) i (omega (arith, low, length-map xs contents)) in
    last ∙ sym (ap (λ (ys : List A). text ++ spelled_list f ys) none) ∙ e

-- the parts of a hart's lines, one after the other
pub hart_written : (t named done stopped value read numbers : List ℕ) → t ++ (named ++ (done ++ (stopped ++ value))) ++ read ++ numbers ≡ t ++ (named ++ (done ++ (stopped ++ (value ++ (read ++ numbers)))))
hart_written t named done stopped value read numbers = simp append_assoc
