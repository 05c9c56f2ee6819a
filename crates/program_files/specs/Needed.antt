-- How many rounds a run needs.
use Rattle.std.specs.Prelude.{◌≡◌, ◌⊎◌, ◌<◌, ◌≤◌, ℕ, Bool, false, true, List, is_some}
use Rattle.std.specs.List.{list_all}
use Rattle.hart_step.specs.declared.hart.Hart.{Hart}
use Rattle.machine.specs.Machine.{Running, after_rounds, opening}
use Rattle.round_planner.specs.Quotas.{Planned}
use Rattle.round_planner.specs.Settings.{IsPlan, image_for}
use Rattle.round_planner.specs.declared.settings.Settings.{Settings}

-- all harts have stopped
abbrev pub have_stopped : List Hart → Bool
have_stopped hs = list_all (λ (h : Hart). is_some h.stop) hs

-- of so many rounds from a machine on, the first n have a hart that runs as they begin: these are all, or all harts have stopped after them
pub record IsNeeded (rounds : ℕ) (m : Running) (n : ℕ) : Type 0 where
  pub most : n ≤ rounds
  pub enough : (n ≡ rounds) ⊎ (have_stopped (after_rounds n m).state.harts ≡ true)
  pub all : (k : ℕ) → k < n → have_stopped (after_rounds k m).state.harts ≡ false

-- so many rounds does the run need that settings ask for
pub record Needs (s : Settings) (image input : List ℕ) (n : ℕ) : Type 0 where
  pub plan : Planned
  pub planned : IsPlan s plan
  pub needed : IsNeeded s.rounds (opening (image_for s image) input plan) n
