-- How numbers of executions are counted.
use Rattle.std.specs.Prelude.{ℕ, ◌+◌, ◌==◌, if◌then◌else◌}
use Rattle.fence_table.specs.declared.tally.Tally.{Tally}

-- one more number, which comes after those that are counted
abbrev pub with_number : ℕ → Tally → Tally
with_number n t = record { plans = t.plans + 1; first = if t.plans == 0 then n else t.first }
