-- What a plan says of each round and hart.
use Rattle.std.specs.Prelude.{◌≡◌, ℕ, ◌-◌, ◌%◌, ◌≤◌, ◌==◌, if◌then◌else◌, List, [], false, length, replicate, slice_index, slice_index_or}
use Rattle.round_planner.specs.Rows.{has_out_of_range, has_odd_row}

-- a plan for a number of harts: its rows as they were read, and the budget of a serial turn
pub record Planned : Type 0 where
  pub harts : ℕ
  pub rows : List (List ℕ)
  pub budget : ℕ

abbrev pub planned : ℕ → List (List ℕ) → ℕ → Planned
planned harts rows budget = record { harts = harts; rows = rows; budget = budget }

-- what a row says of each hart
abbrev pub spread : ℕ → List ℕ → List ℕ
spread harts quotas = if length quotas == 1 then replicate harts (slice_index quotas 0) else quotas

-- the quotas of all harts in the round after n rounds
abbrev pub quotas_of : Planned → ℕ → List ℕ
quotas_of p n = spread p.harts (slice_index_or p.rows (n % length p.rows) [])

-- the quota of one hart in a round; rounds are counted from 1
abbrev pub quota_of : Planned → ℕ → ℕ → ℕ
quota_of p round hart = slice_index (quotas_of p (round - 1)) hart

abbrev pub IsQuota : ℕ → Type 0
IsQuota n = (1 ≤ n) × (n ≤ 1000000)

-- what holds of each plan
pub record IsPlan (p : Planned) : Type 0 where
  pub some_harts : 1 ≤ p.harts
  pub few_harts : p.harts ≤ 64
  pub some_rows : 1 ≤ length p.rows
  pub few_rows : length p.rows ≤ 256
  pub in_range : has_out_of_range p.rows ≡ false
  pub sized : has_odd_row p.harts p.rows ≡ false
  pub some_budget : 1 ≤ p.budget
  pub few_budget : p.budget ≤ 1000
