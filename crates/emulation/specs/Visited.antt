-- What a visitor knows of a run that settings name.
use Rattle.std.specs.Prelude.{ℕ, List}
use Rattle.machine.specs.Machine.{opening}
use Rattle.machine.specs.Untraced.{IsUntraced, Untraced}
use Rattle.machine.specs.Walks.{HasSeenAll}
use Rattle.round_planner.specs.Quotas.{Planned}
use Rattle.round_planner.specs.Settings.{IsPlan, image_for}
use Rattle.round_planner.specs.declared.settings.Settings.{Settings}

-- it knows all rounds of the run, or those of them after which no hart runs
pub record HasSeenRun {V : Type 0} (knows : V → V → Untraced → ℕ → ℕ → Type 0) (first now : V) (s : Settings) (file input : List ℕ) : Type 0 where
  pub plan : Planned
  pub planned : IsPlan s plan
  pub start : Untraced
  pub opens : IsUntraced (opening (image_for s file) input plan) start
  pub seen : HasSeenAll knows first now start s.rounds
