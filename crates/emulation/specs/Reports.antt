-- The report of a run.
use Rattle.std.specs.Prelude.{◌≡◌, ℕ, List}
use Rattle.round_planner.specs.Quotas.{Planned}
use Rattle.report.specs.Report.{report_of}
use Rattle.machine.specs.Runs.{after_run}
use Rattle.round_planner.specs.Settings.{IsPlan}
use Rattle.round_planner.specs.declared.settings.Settings.{Settings}
use Rattle.emulation.specs.Showing.{end_of}
use Rattle.emulation.specs.declared.run_end.RunEnd.{RunEnd}

-- the report after the rounds of a run, from a file, an input and a plan
abbrev pub report_after : Settings → List ℕ → List ℕ → Planned → List ℕ
report_after s file input plan = report_of (after_run s file input plan).state

-- the text is the report of the run that the settings name, and so do its harts end
pub record IsReport (s : Settings) (file input : List ℕ) (end : RunEnd) (text : List ℕ) : Type 0 where
  pub plan : Planned
  pub planned : IsPlan s plan
  pub is_text : text ≡ report_after s file input plan
  pub is_end : end ≡ end_of (after_run s file input plan).state.harts

-- the text is the report of that run, however its harts end
abbrev pub IsReportAlone : Settings → List ℕ → List ℕ → List ℕ → Type 0
IsReportAlone s file input text = (end : RunEnd) × IsReport s file input end text
