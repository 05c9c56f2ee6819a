-- What is shown of a run without its trace, and how its harts end.
use Rattle.std.specs.Prelude.{◌≡◌, ℕ, ◌==◌, ◌&&◌, not, is_some, if◌then◌else◌, Bool, false, List, Option, Some, None}
use Rattle.std.specs.List.{list_all, list_any}
use Rattle.round_schedule.specs.Schedule.{State}
use Rattle.hart_step.specs.declared.hart.Hart.{Hart}
use Rattle.hart_step.specs.declared.hart.Stop.{Stop}
use Rattle.hart_step.specs.Console.{ConsoleState}
use Rattle.machine.specs.Runs.{after_run}
use Rattle.report.specs.Shown.{state_text, summary_text}
use Rattle.round_planner.specs.Quotas.{Planned}
use Rattle.round_planner.specs.Settings.{IsPlan}
use Rattle.round_planner.specs.declared.settings.Settings.{Settings}
use Rattle.emulation.specs.declared.run_end.RunEnd.{RunEnd}
use Rattle.emulation.specs.declared.run_end.RunEnd.TheVariants.{Badly, RunsOn, Well}
use Rattle.emulation.specs.declared.showing.ShownState.{ShownState}
use Rattle.emulation.specs.declared.showing.ShownState.TheVariants.{State as Whole, Harts, Output}

-- the text of it
abbrev pub shown_text : ShownState → State Hart ConsoleState → List ℕ
shown_text Whole s = state_text s.rounds s.harts s.bytes s.console.output
shown_text Harts s = summary_text s.rounds s.harts s.console.output
shown_text Output s = s.console.output

-- whether a hart that stopped so exited with 0
abbrev pub ends_well : Option Stop → Bool
ends_well None = false
ends_well (Some s) = (s.code == 1) && (s.value == 0)

-- whether all harts did
abbrev pub all_end_well : List Hart → Bool
all_end_well hs = list_all (λ (h : Hart). ends_well h.stop) hs

-- whether one runs
abbrev pub some_run : List Hart → Bool
some_run hs = list_any (λ (h : Hart). not (is_some h.stop)) hs

-- how a run with these harts has ended
abbrev pub end_of : List Hart → RunEnd
end_of hs = if some_run hs then RunsOn else (if all_end_well hs then Well else Badly)

-- the text is what is shown of the run that the settings name, and so do its harts end
pub record IsShown (shown : ShownState) (s : Settings) (file input : List ℕ) (end : RunEnd) (text : List ℕ) : Type 0 where
  pub plan : Planned
  pub planned : IsPlan s plan
  pub is_text : text ≡ shown_text shown (after_run s file input plan).state
  pub is_end : end ≡ end_of (after_run s file input plan).state.harts
