-- What `run` prints of a run, and with which status it ends.
use Rattle.std.specs.Prelude.{◌≡◌, ℕ, List, Bool, true, false, Option, Some, None}
use Rattle.command_line.specs.declared.settings.Print.{Print}
use Rattle.command_line.specs.declared.settings.Shown.{Shown as Asked}
use Rattle.command_line.specs.declared.settings.Shown.TheVariants as asked
use Rattle.emulation.specs.Reports.{report_after}
use Rattle.emulation.specs.Showing.{end_of, shown_text}
use Rattle.emulation.specs.declared.run_end.RunEnd.{RunEnd}
use Rattle.emulation.specs.declared.run_end.RunEnd.TheVariants.{Badly, RunsOn, Well}
use Rattle.emulation.specs.declared.showing.ShownState.{ShownState}
use Rattle.emulation.specs.declared.showing.ShownState.TheVariants as parts
use Rattle.machine.specs.Runs.{after_run}
use Rattle.round_planner.specs.Settings.{IsPlan}
use Rattle.round_planner.specs.declared.settings.Settings.{Settings}
use Rattle.program_files.specs.declared.exit_status.ExitStatus.{ExitStatus}
use Rattle.program_files.specs.declared.exit_status.ExitStatus.TheVariants.{Done, Doubtful}
use Rattle.round_planner.specs.Quotas.{Planned}

-- what is shown of the run, by --show and --no-trace; none is the whole report
abbrev pub shown_of : Asked → Bool → Option ShownState
shown_of asked.Report true = Some parts.State
shown_of asked.Report false = None
shown_of asked.Harts no_trace = Some parts.Harts
shown_of asked.Output no_trace = Some parts.Output

-- the text of it
abbrev pub text_of : Option ShownState → Settings → List ℕ → List ℕ → Planned → List ℕ
text_of None s image input plan = report_after s image input plan
text_of (Some shown) s image input plan = shown_text shown (after_run s image input plan).state

-- what the line prints of a run
abbrev pub printed_text : Print → Settings → List ℕ → List ℕ → Planned → List ℕ
printed_text print s image input plan = text_of (shown_of print.show print.no_trace) s image input plan

-- the text is what the line prints of the run that the settings name, and so do its harts end
pub record IsPrinted (print : Print) (s : Settings) (image input : List ℕ) (end : RunEnd) (text : List ℕ) : Type 0 where
  pub plan : Planned
  pub planned : IsPlan s plan
  pub is_text : text ≡ printed_text print s image input plan
  pub is_end : end ≡ end_of (after_run s image input plan).state.harts

-- 4 where the line has --strict and a hart didn't end well
abbrev pub run_status : Bool → RunEnd → ExitStatus
run_status false end = Done
run_status true Well = Done
run_status true Badly = Doubtful
run_status true RunsOn = Doubtful
