-- What the next round of a guest starts from, and what its harts leave.
use Rattle.std.specs.Prelude.{Bool, ℕ, zero, suc, ◌+◌, List, [], ◌∷◌, length}
use Rattle.round_schedule.specs.Schedule.{hart_rounds}
use Rattle.round_planner.specs.Quotas.{Planned, quota_of, quotas_of}
use Rattle.hart_step.specs.Words.{words_of}
use Rattle.hart_rounds.specs.Starts.{Start}
use Rattle.hart_rounds.specs.declared.hart_end.HartEnd.{HartEnd}
use Rattle.guest_rounds.specs.Guests.{Guest}
use Rattle.guest_rounds.specs.HartEnds.{AreEndsOf}

-- the quotas of harts k, k + 1, .., n of them, in a round
abbrev pub quotas_from : Planned → ℕ → ℕ → ℕ → List ℕ
quotas_from plan round k zero = []
quotas_from plan round k (suc n) = quota_of plan round k ∷ quotas_from plan round (suc k) n

-- what the round of a guest after n rounds starts from, with the harts' accesses kept or just counted
abbrev pub next_start : Bool → Planned → ℕ → Guest → Start
next_start logs plan n g = record {
  memory = g.shared.memory;
  quotas = quotas_from plan (n + 1) 0 (length g.harts);
  harts = g.harts;
  logs = logs;
}

-- these are what the rounds of a guest after n rounds left
abbrev pub AreOfGuest : Bool → Planned → ℕ → Guest → List HartEnd → Type 0
AreOfGuest logs plan n g os = AreEndsOf logs g.shared.memory (hart_rounds (words_of g.shared.memory.code) g.shared.memory.bytes (quotas_of plan n) g.harts) os
