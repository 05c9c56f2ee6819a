-- Rounds that are passed one way.
use Rattle.std.specs.Prelude.{ℕ, ◌+◌, ◌-◌}
use Rattle.watching.specs.declared.watchpoint.Way.{Way}
use Rattle.watching.specs.declared.watchpoint.Way.TheVariants.{On, Back}

-- how many rounds are done after so many more, and how many are left
abbrev pub rounds_at : Way → ℕ → ℕ → ℕ
rounds_at On n more = n + more
rounds_at Back n more = n - more

abbrev pub rounds_left : Way → ℕ → ℕ → ℕ
rounds_left On rounds n = rounds - n
rounds_left Back rounds n = n
