-- What a hart was and saw within a round of a run, how many instructions it did in it, and in which round it did one of its instructions.
use Rattle.std.specs.Prelude.{◌≡◌, ℕ, zero, suc, ◌+◌, ◌<◌, ◌≤◌, nat_lt, if◌then◌else◌, length, slice_get, slice_index, Option, Some, None}
use Rattle.moments.specs.Sights.{Sight, sight_after}
use Rattle.round_planner.specs.Quotas.{quotas_of}
use Rattle.hart_step.specs.Words.{words_of}
use Rattle.hart_step.specs.declared.hart.Hart.{Hart}
use Rattle.machine.specs.Machine.{Running, after_rounds}
use Rattle.run_events.specs.Pcs.{hart_at}

-- a hart after the first `count` instructions that it did in a round of the run of so many rounds from m, serial ones counted, and memory as it saw it
-- there; the first round is round 1
abbrev pub sight_at : ℕ → Running → ℕ → ℕ → ℕ → Option (Sight Hart)
sight_at rounds m zero hart count = None
sight_at rounds m (suc n) hart count = if nat_lt n rounds then sight_after (words_of m.code) m.plan.budget (quotas_of m.plan) (after_rounds n m).state hart count else None

-- it did at least so many in that round
abbrev pub DidSoMany : ℕ → Running → ℕ → ℕ → ℕ → Type 0
DidSoMany rounds m round hart count = (h : Hart) × (hart_at rounds m round hart count ≡ Some h)

-- how many it did in that round: the greatest count for which there is a hart; none where there is none for any
abbrev pub IsCountAt : ℕ → Running → ℕ → ℕ → Option ℕ → Type 0
IsCountAt rounds m round hart (Some n) = DidSoMany rounds m round hart n × ((count : ℕ) → n < count → hart_at rounds m round hart count ≡ None)
IsCountAt rounds m round hart None = (count : ℕ) → hart_at rounds m round hart count ≡ None

-- ---- by an instruction's place in the whole run: how many its hart did before it

-- the hart before the instruction at a place, which it did in this round after so many others of the round
pub record IsBefore (rounds : ℕ) (m : Running) (hart place round count : ℕ) (h : Hart) : Type 0 where
  pub here : hart_at rounds m round hart count ≡ Some h
  pub done : h.done ≡ place
  pub goes_on : DidSoMany rounds m round hart (count + 1)

-- the round in which it did that instruction, and the hart before it; none where it did so many in no round
abbrev pub IsStateBefore : ℕ → Running → ℕ → ℕ → Option (ℕ × Hart) → Type 0
IsStateBefore rounds m hart place (Some x) = (count : ℕ) × IsBefore rounds m hart place x.0 count x.1
IsStateBefore rounds m hart place None = (round count : ℕ) (h : Hart) → IsBefore rounds m hart place round count h → ⊥

-- the same round, and the count of the instructions before it in that round
abbrev pub IsRoundOf : ℕ → Running → ℕ → ℕ → Option (ℕ × ℕ) → Type 0
IsRoundOf rounds m hart place (Some x) = (h : Hart) × IsBefore rounds m hart place x.0 x.1 h
IsRoundOf rounds m hart place None = (round count : ℕ) (h : Hart) → IsBefore rounds m hart place round count h → ⊥

-- a run that begins with no instruction done has this hart, and its plan is in range
pub record Begins (m : Running) (hart : ℕ) : Type 0 where
  pub rounds : m.state.rounds ≡ 0
  pub there : hart < length m.state.harts
  pub fresh : (h : Hart) → slice_get m.state.harts hart ≡ Some h → h.done ≡ 0
  pub quotas : (n i : ℕ) → slice_index (quotas_of m.plan n) i ≤ 1000000
  pub budget : m.plan.budget ≤ 1000
