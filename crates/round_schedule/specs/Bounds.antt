-- How many workers a run or a family of runs takes.
use Rattle.std.specs.Prelude.{ℕ, ◌<◌, ◌≤◌, ◌⊎◌}
use Rattle.round_schedule.specs.declared.bounds.TheConstants.{MOST_WORKERS}

-- at least one, and at most MOST_WORKERS
abbrev pub AreWorkers : ℕ → Type 0
AreWorkers n = (1 ≤ n) × (n ≤ MOST_WORKERS)

-- none, or more than MOST_WORKERS
abbrev pub AreNoWorkers : ℕ → Type 0
AreNoWorkers n = (n < 1) ⊎ (MOST_WORKERS < n)
