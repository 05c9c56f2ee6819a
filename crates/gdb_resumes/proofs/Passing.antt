-- Rounds that were looked through, and those that are left.
use Rattle.std.proofs.Common.{◌≡◌, ℕ, zero, suc, ◌+◌, ◌-◌, ◌≤◌, List, Option, Some, None, refl, sym, ◌∙◌, ap, arith}
use Rattle.machine.specs.Machine.{Running, after_rounds}
use Rattle.machine.proofs.Repeated.{more_rounds}
use Rattle.moments.specs.declared.asked.Asked.{Asked}
use Rattle.watching.specs.declared.watchpoint.Watchpoint.{Watchpoint}
use Rattle.past_harts.specs.declared.point.Point.{Point}
use Rattle.round_steps.specs.declared.told.Told.{Told}
use Rattle.round_steps.specs.Points.{first_in, next_point_of, or_else, previous_point_of}
use Rattle.round_steps.proofs.PointsFound.{found_between, none_between}

or_else_none : (x : Option Told) → x ≡ or_else x None
or_else_none None = refl
or_else_none (Some x) = refl

or_else_assoc : (x y z : Option Told) → or_else (or_else x y) z ≡ or_else x (or_else y z)
or_else_assoc None y z = refl
or_else_assoc (Some x) y z = refl

module _ (a : Asked) (ws : List Watchpoint) (here : Point) where
  -- those of some rounds come before those of the rounds behind them
  next_add : (m : Running) (k j : ℕ) → next_point_of a ws m (k + j) here ≡ or_else (next_point_of a ws m k here) (next_point_of a ws (after_rounds k m) j here)
  unfolding next_point_of
  next_add m k zero = (let same : k + 0 ≡ k = omega arith in ap (λ (n : ℕ). next_point_of a ws m n here) same) ∙ or_else_none (next_point_of a ws m k here)
  next_add m k (suc j) =
      (let same : k + suc j ≡ suc (k + j) = omega arith in ap (λ (n : ℕ). next_point_of a ws m n here) same)
      ∙ ap (λ (x : Option Told). or_else x (first_in a ws (after_rounds (k + j) m) here)) (next_add m k j)
      ∙ ap (λ (x : Running). or_else (or_else (next_point_of a ws m k here) (next_point_of a ws (after_rounds k m) j here)) (first_in a ws x here)) (sym (more_rounds k j m))
      ∙ or_else_assoc (next_point_of a ws m k here) (next_point_of a ws (after_rounds k m) j here) (first_in a ws (after_rounds j (after_rounds k m)) here)

  pub passed_on : (m : Running) (n k rounds : ℕ) (x : Option Told) → n + k ≤ rounds → x ≡ next_point_of a ws (after_rounds n m) k here →
      or_else x (next_point_of a ws (after_rounds (n + k) m) (rounds - (n + k)) here) ≡ next_point_of a ws (after_rounds n m) (rounds - n) here
  passed_on m n k rounds x le e =
      ap (λ (y : Option Told). or_else y (next_point_of a ws (after_rounds (n + k) m) (rounds - (n + k)) here)) e
      ∙ ap (λ (y : Running). or_else (next_point_of a ws (after_rounds n m) k here) (next_point_of a ws y (rounds - (n + k)) here)) (sym (more_rounds n k m))
      ∙ sym (next_add (after_rounds n m) k (rounds - (n + k)))
      ∙ (let sum : k + (rounds - (n + k)) ≡ rounds - n = omega (arith, le) in ap (λ (j : ℕ). next_point_of a ws (after_rounds n m) j here) sum)

  pub passed_back : (m : Running) (b e : ℕ) (x : Option Told) → b ≤ e → x ≡ previous_point_of a ws (after_rounds b m) (e - b) here →
      or_else x (previous_point_of a ws m b here) ≡ previous_point_of a ws m e here
  passed_back m b e None le none = sym (none_between a ws m here b e le none)
  passed_back m b e (Some x) le found = found_between a ws m here x b e le found
