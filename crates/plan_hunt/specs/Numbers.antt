-- The numbers by which steps are tried.
use Rattle.std.specs.Prelude.{ℕ, ◌+◌, ◌-◌, ◌*◌, ◌/◌, ◌%◌, ◌==◌, nat_lt, if◌then◌else◌}
use Rattle.plan_hunt.specs.declared.step.Change.{Change}
use Rattle.plan_hunt.specs.declared.step.Change.TheVariants.{LeftOut, Least, Each, Single}
use Rattle.plan_hunt.specs.declared.step.Step.{Step}
use Rattle.plan_hunt.specs.declared.step.Way.{Way}
use Rattle.plan_hunt.specs.declared.step.Way.TheVariants.{ToOne, ToHalf, OneLess}

abbrev pub way_at : ℕ → Way
way_at n = if n == 0 then ToOne else (if n == 1 then ToHalf else OneLess)

-- 5 changes of the whole row, and 3 of each hart's quota
abbrev pub change_at : ℕ → Change
change_at n =
    if n == 0 then LeftOut
    else (if n == 1 then Least
    else (if nat_lt n 5 then Each (way_at (n - 2))
    else Single ((n - 5) / 3) (way_at ((n - 5) % 3))))

-- step n for so many rows: all rows with change 0, then all with change 1, and so on
abbrev pub step_at : ℕ → ℕ → Step
step_at rows n = record { row = n % rows; change = change_at (n / rows) }

-- how many numbers there are
abbrev pub count_steps : ℕ → ℕ → ℕ
count_steps rows harts = rows * (5 + 3 * harts)
