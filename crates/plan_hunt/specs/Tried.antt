-- What trying steps leaves of a plan.
use Rattle.std.specs.Prelude.{◌≡◌, ℕ, ◌<◌, ◌≤◌, Bool, true, false, Ok, length}
use Rattle.round_planner.specs.Causes.{checked}
use Rattle.round_planner.specs.Quotas.{Planned}
use Rattle.plan_hunt.specs.Endings.{Ended}
use Rattle.plan_hunt.specs.Numbers.{step_at}
use Rattle.plan_hunt.specs.Steps.{LeadsTo, size}

-- what holds of each plan that is made smaller
pub record IsDraft (p : Planned) : Type 0 where
  pub some_harts : 1 ≤ p.harts
  pub few_harts : p.harts ≤ 64
  pub some_rows : 1 ≤ length p.rows
  pub accepted : checked p.harts p.rows ≡ Ok tt
  pub some_budget : 1 ≤ p.budget
  pub few_budget : p.budget ≤ 1000

-- a smaller plan for the same harts, with the same budget, that ends so
pub record IsSmaller (ends : Planned → Ended) (e : Ended) (p q : Planned) : Type 0 where
  pub harts : q.harts ≡ p.harts
  pub budget : q.budget ≡ p.budget
  pub same : ends q ≡ e
  pub size : size q.rows < size p.rows

-- a smaller plan was taken, or the plan is as it was and for a reason
abbrev pub IsTried : (Planned → Ended) → Ended → Planned → Type 0 → Bool → Planned → Type 0
IsTried ends e p reason true q = IsSmaller ends e p q
IsTried ends e p reason false q = (q ≡ p) × reason

-- none of the first n steps leads there
abbrev pub NoneOf : (Planned → Ended) → Ended → Planned → ℕ → Type 0
NoneOf ends e p n = (k : ℕ) → k < n → LeadsTo ends e p (step_at (length p.rows) k) → ⊥
