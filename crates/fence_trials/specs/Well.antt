-- When an execution ends as it has to.
use Rattle.std.specs.Prelude.{◌≡◌, ⊤, ℕ, ◌<◌, Bool, true, false, List, Option, Some, None, option_map}
use Rattle.std.specs.List.{list_all, list_any}
use Rattle.plan_hunt.specs.Endings.{Ended, ends_well}
use Rattle.plan_hunt.specs.declared.hart_ending.HartEnding.{HartEnding}
use Rattle.plan_hunt.specs.declared.hart_ending.HartEnding.TheVariants.{Loops, Runs, Stopped}
use Rattle.fence_trials.specs.Departing.{AreNone}
use Rattle.fence_trials.specs.declared.departing.Departing.{Departing}
use Rattle.fence_trials.specs.declared.ordinary.Ordinary.{Ordinary}

-- the bytes are those that are expected, where some are
abbrev pub IsExpected : Option (List ℕ) → List ℕ → Type 0
IsExpected None bytes = ⊤
IsExpected (Some expected) bytes = bytes ≡ expected

-- each hart exited with 0, and what was put out, and the bytes that are looked at, are those of the ordinary runs, where these agree
pub record IsWell (output seen : Option (List ℕ)) (e : Ended) : Type 0 where
  pub exits : list_all ends_well e.stops ≡ true
  pub is_output : IsExpected output e.output
  pub is_seen : IsExpected seen e.seen

-- the same of the ordinary runs that were made
abbrev pub IsWellBeside : Ordinary → Ended → Type 0
IsWellBeside o e = IsWell (option_map (λ v. v.items) o.output) (option_map (λ v. v.items) o.seen) e

-- a hart hasn't stopped
abbrev pub goes_on : HartEnding → Bool
goes_on Runs = true
goes_on Loops = true
goes_on (Stopped stop) = false

-- where an execution ended, a hart hadn't stopped
abbrev pub IsCutOff : Ended → Type 0
IsCutOff e = list_any goes_on e.stops ≡ true

-- ---- ordinary runs. `comes_to departing i e` says that the execution of number i that departs so comes to e

-- one such run: it ends well where all do, and has what they agree on
pub record IsOrdinaryRun (o : Ordinary) (e : Ended) : Type 0 where
  pub exits : o.ends_well ≡ true → list_all ends_well e.stops ≡ true
  pub is_output : IsExpected (option_map (λ v. v.items) o.output) e.output
  pub is_seen : IsExpected (option_map (λ v. v.items) o.seen) e.seen

-- the runs of the numbers below n, in which nothing departs, are such ones
abbrev pub AreOrdinaryRuns : (Departing → ℕ → Ended → Type 0) → ℕ → Ordinary → Type 0
AreOrdinaryRuns comes_to n o = (i : ℕ) → i < n → (d : Departing) × (e : Ended) × AreNone d × comes_to d i e × IsOrdinaryRun o e
