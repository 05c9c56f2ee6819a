-- Each step has a number.
use Rattle.std.proofs.Common.{◌≡◌, ℕ, ◌+◌, ◌-◌, ◌*◌, ◌/◌, ◌%◌, ◌<◌, ◌≤◌, ◌==◌, nat_lt, true, false, refl, ◌∙◌, ap, arith}
use Rattle.std.proofs.Math.Nat.{mul_comm, mul-le-mul, mul-le-mul_right}
use Rattle.std.proofs.lemmas.Bool.Decides.{nat_tests}
use Rattle.std.proofs.lemmas.Nat.{div-mul-add, mod-mul-add}
use Rattle.plan_hunt.specs.Numbers.{change_at, count_steps, step_at, way_at}
use Rattle.plan_hunt.specs.Steps.{has_hart}
use Rattle.plan_hunt.specs.declared.step.Change.{Change}
use Rattle.plan_hunt.specs.declared.step.Change.TheVariants.{LeftOut, Least, Each, Single}
use Rattle.plan_hunt.specs.declared.step.Step.{Step}
use Rattle.plan_hunt.specs.declared.step.Way.{Way}
use Rattle.plan_hunt.specs.declared.step.Way.TheVariants.{ToOne, ToHalf, OneLess}

way_number : Way → ℕ
way_number ToOne = 0
way_number ToHalf = 1
way_number OneLess = 2

way_small : (w : Way) → way_number w < 3
unfolding way_number
way_small ToOne = omega arith
way_small ToHalf = omega arith
way_small OneLess = omega arith

way_back : (w : Way) → way_at (way_number w) ≡ w
unfolding way_number
way_back ToOne = refl
way_back ToHalf = refl
way_back OneLess = refl

change_number : Change → ℕ
change_number LeftOut = 0
change_number Least = 1
change_number (Each w) = 2 + way_number w
change_number (Single hart w) = 5 + (hart * 3 + way_number w)

-- the number of a change is below the count, and is that change's
each_back : (w : Way) → change_at (2 + way_number w) ≡ Each w
unfolding way_number
each_back ToOne = refl
each_back ToHalf = refl
each_back OneLess = refl

single_at : (hart k : ℕ) → k < 3 → change_at (5 + (hart * 3 + k)) ≡ Single hart (way_at k)
single_at hart k h =
    let small : nat_lt (5 + (hart * 3 + k)) 5 ≡ false = grind (arith, nat_tests) in
    let zero : (5 + (hart * 3 + k) == 0) ≡ false = grind (arith, nat_tests) in
    let one : (5 + (hart * 3 + k) == 1) ≡ false = grind (arith, nat_tests) in
    let less : 5 + (hart * 3 + k) - 5 ≡ hart * 3 + k = omega arith in
    rw (zero, one, small, less, div-mul-add hart 3 k h, mod-mul-add hart 3 k h)

change_back : (c : Change) → change_at (change_number c) ≡ c
unfolding change_number
change_back LeftOut = refl
change_back Least = refl
change_back (Each w) = each_back w
change_back (Single hart w) = single_at hart (way_number w) (way_small w) ∙ ap (λ (v : Way). Single hart v) (way_back w)

change_small : (harts : ℕ) (c : Change) → has_hart harts c ≡ true → change_number c < 5 + 3 * harts
unfolding change_number
change_small harts LeftOut h = omega arith
change_small harts Least h = omega arith
change_small harts (Each w) h = omega (arith, way_small w)
change_small harts (Single hart w) h = let l : hart < harts = grind (arith, nat_tests) in omega (arith, l, way_small w)

abbrev built : ℕ → Change → Step
built row change = record { row = row; change = change }

-- the number of a step
pub number_of : ℕ → Step → ℕ
number_of rows s = change_number s.change * rows + s.row

pub number_small : (rows harts : ℕ) (s : Step) → s.row < rows → has_hart harts s.change ≡ true → number_of rows s < count_steps rows harts
unfolding number_of
number_small rows harts s l h = below (change_number s.change) (5 + 3 * harts) rows s.row (change_small harts s.change h) l
  where
    below : (a b r i : ℕ) → a < b → i < r → a * r + i < r * b
    below a b r i l m =
        let up : a + 1 ≤ b = omega arith in
        let n : (a + 1) * r ≤ b * r = mul-le-mul_right r up in
        let one : (a + 1) * r ≡ a * r + r = grind arith in
        omega (arith, n, one, mul_comm r b)

pub number_back : (rows : ℕ) (s : Step) → s.row < rows → step_at rows (number_of rows s) ≡ s
unfolding number_of
number_back rows s l = same s (change_number s.change * rows + s.row) (mod-mul-add (change_number s.change) rows s.row l)
    (ap change_at (div-mul-add (change_number s.change) rows s.row l) ∙ change_back s.change)
  where
    same : (t : Step) (n : ℕ) → n % rows ≡ t.row → change_at (n / rows) ≡ t.change → step_at rows n ≡ t
    same t n p q = ap (λ (i : ℕ). built i (change_at (n / rows))) p ∙ ap (λ (c : Change). built t.row c) q

-- so many rows and harts have few steps
pub few_steps : (rows harts : ℕ) → rows ≤ 256 → harts ≤ 64 → count_steps rows harts ≤ 50432
few_steps rows harts l m =
    let few : 5 + 3 * harts ≤ 197 = omega arith in
    let n : rows * (5 + 3 * harts) ≤ 256 * 197 = mul-le-mul l few in
    omega (arith, n)
