-- Sums over the sitters of all views.
use Rattle.std.proofs.Common.{◌≡◌, ◌≢◌, ℕ, zero, suc, ◌+◌, ◌≤◌, Bool, true, false, if◌then◌else◌, List, [], ◌∷◌, ◌++◌, length, set, refl, sym, ap, arith, eq-eqb, ne_eqb}
use mathlib.Core.Option.{some, some-injective, some-ne-none}
use lib.ListN.{get_elem?}
use Rattle.run_book.specs.declared.sitter.Sitter.{Sitter}
use Rattle.run_book.specs.Lists.{Each}
use Rattle.run_book.specs.Rule.{View}
use Rattle.run_book.specs.Sitters.{one, numbered, held, sum_in, sum_of}

abbrev pub bit : Bool → ℕ
bit b = if b then 1 else 0

bit_le : (b : Bool) → bit b ≤ 1
bit_le true = omega arith
bit_le false = omega arith

module _ {E : Type 0} where
  pub sum_in_append : (f : Sitter E → ℕ) (v w : View E) → sum_in f (v ++ w) ≡ sum_in f v + sum_in f w
  sum_in_append f [] w = omega arith
  sum_in_append f (x ∷ v) w = let r = sum_in_append f v w in omega arith

  pub sum_append : (f : Sitter E → ℕ) (vs : List (View E)) (w : View E) → sum_of f (vs ++ w ∷ []) ≡ sum_of f vs + sum_in f w
  sum_append f [] w = omega arith
  sum_append f (v ∷ vs) w = let r = sum_append f vs w in omega arith

  pub sum_set : (f : Sitter E → ℕ) (vs : List (View E)) (i : ℕ) (v w : View E) → get_elem? vs i ≡ some v → sum_of f (set vs i w) + sum_in f v ≡ sum_of f vs + sum_in f w
  sum_set f [] i v w at = absurd (some-ne-none v (sym at))
  sum_set f (u ∷ vs) zero v w at = let e : sum_in f u ≡ sum_in f v = ap (sum_in f) (some-injective u v at) in omega arith
  sum_set f (u ∷ vs) (suc i) v w at = let r = sum_set f vs i v w at in omega arith

  pub sum_one : (f : Sitter E → ℕ) (vs : List (View E)) (i : ℕ) (v : View E) → get_elem? vs i ≡ some v → sum_in f v ≤ sum_of f vs
  sum_one f [] i v at = absurd (some-ne-none v (sym at))
  sum_one f (u ∷ vs) zero v at = let e : sum_in f u ≡ sum_in f v = ap (sum_in f) (some-injective u v at) in omega arith
  sum_one f (u ∷ vs) (suc i) v at = let r = sum_one f vs i v at in omega arith

  pub sum_two : (f : Sitter E → ℕ) (vs : List (View E)) (i j : ℕ) (v w : View E) → j ≢ i → get_elem? vs i ≡ some v → get_elem? vs j ≡ some w → sum_in f v + sum_in f w ≤ sum_of f vs
  sum_two f [] i j v w ne at there = absurd (some-ne-none v (sym at))
  sum_two f (u ∷ vs) zero zero v w ne at there = absurd (ne refl)
  sum_two f (u ∷ vs) zero (suc j) v w ne at there = let e : sum_in f u ≡ sum_in f v = ap (sum_in f) (some-injective u v at) in let r = sum_one f vs j w there in omega arith
  sum_two f (u ∷ vs) (suc i) zero v w ne at there = let e : sum_in f u ≡ sum_in f w = ap (sum_in f) (some-injective u w there) in let r = sum_one f vs i v at in omega arith
  sum_two f (u ∷ vs) (suc i) (suc j) v w ne at there = let r = sum_two f vs i j v w (λ e. ne (ap suc e)) at there in omega arith

  sum_in_le : (f g : Sitter E → ℕ) → ((x : Sitter E) → f x ≤ g x) → (v : View E) → sum_in f v ≤ sum_in g v
  sum_in_le f g le [] = omega arith
  sum_in_le f g le (x ∷ v) = let r = sum_in_le f g le v in let h = le x in omega arith

  pub sum_le : (f g : Sitter E → ℕ) → ((x : Sitter E) → f x ≤ g x) → (vs : List (View E)) → sum_of f vs ≤ sum_of g vs
  sum_le f g le [] = omega arith
  sum_le f g le (v ∷ vs) = let r = sum_le f g le vs in let h = sum_in_le f g le v in omega arith

  pub held_one : (x : Sitter E) → held x ≤ one x
  held_one x = bit_le x.holding

  pub length_in : (v : View E) → sum_in one v ≡ length v
  length_in [] = refl
  length_in (x ∷ v) = let r = length_in v in omega arith

  pub numbered_self : (x : Sitter E) → numbered x.number x ≡ 1
  numbered_self x = ap bit (eq-eqb x.number x.number refl)

  pub numbered_at : (k : ℕ) (x : Sitter E) → x.number ≡ k → numbered k x ≡ 1
  numbered_at k x e = ap bit (eq-eqb x.number k e)

  pub numbered_other : (k : ℕ) (x : Sitter E) → x.number ≢ k → numbered k x ≡ 0
  numbered_other k x ne = ap bit (ne_eqb x.number k ne)

  pub held_by : (x : Sitter E) (b : Bool) → x.holding ≡ b → held x ≡ bit b
  held_by x b e = ap bit e

  -- where no sitter of the view has the number
  pub none_numbered : (k : ℕ) (v : View E) → sum_in (numbered k) v ≡ 0 → Each (λ z. z.number ≢ k) v
  none_numbered k [] e = tt
  none_numbered k (z ∷ v) e = ((λ is. let n = numbered_at k z is in absurd (omega arith)), none_numbered k v (omega arith))

  -- a change of one view leaves a sum as it was, where that view's stays
  pub same_sum : (f : Sitter E → ℕ) (vs : List (View E)) (i : ℕ) (v w : View E) → get_elem? vs i ≡ some v → sum_in f w ≡ sum_in f v → sum_of f (set vs i w) ≡ sum_of f vs
  same_sum f vs i v w at e = let s = sum_set f vs i v w at in omega arith
