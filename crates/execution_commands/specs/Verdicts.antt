-- What is said of an execution that was checked, and with which status.
use Rattle.std.specs.Prelude.{◌≡◌, ◌++◌, Bool, List, codes, false, true, ℕ}
use Rattle.execution_checker.specs.declared.verdict.Verdict.TheVariants as verdicts
use Rattle.execution_scripts.specs.declared.checking.Checked.{Checked}
use Rattle.execution_scripts.specs.declared.checking.Finding.{Finding}
use Rattle.execution_scripts.specs.declared.checking.Finding.TheVariants.{Fault, Judged}
use Rattle.hart_step.specs.declared.hart.Hart.{Hart}
use Rattle.program_files.specs.declared.exit_status.ExitStatus.{ExitStatus}
use Rattle.program_files.specs.declared.exit_status.ExitStatus.TheVariants.{Differs, Done}
use Rattle.report.specs.Report.{harts_text}

-- RVWMO allows it
abbrev pub is_allowed : Finding → Bool
is_allowed (Judged verdicts.Allowed) = true
is_allowed (Judged (verdicts.Refused reason)) = false
is_allowed (Judged (verdicts.Broken place fault)) = false
is_allowed (Fault fault) = false

abbrev pub allowed_status : Bool → ExitStatus
allowed_status true = Done
allowed_status false = Differs

-- 3 where RVWMO doesn't allow it, or it is none
abbrev pub verdict_status : Finding → ExitStatus
verdict_status finding = allowed_status (is_allowed finding)

-- one that is allowed is said to be so, with its harts at its end; one that isn't is said to be refused, with a reason, which isn't defined
abbrev pub IsTextBy : Bool → List Hart → List ℕ → Type 0
IsTextBy true harts text = text ≡ codes "allowed\n" ++ harts_text 0 harts
IsTextBy false harts text = (reason : List ℕ) × (text ≡ codes "refused\n" ++ reason ++ codes "\n")

-- the text is what is said of it
abbrev pub IsVerdictText : Checked → List ℕ → Type 0
IsVerdictText c text = IsTextBy (is_allowed c.finding) c.execution.standing.harts text
