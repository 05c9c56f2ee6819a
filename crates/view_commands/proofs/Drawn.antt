-- What is drawn of an execution, and what has begun where it was drawn.
use Rattle.std.proofs.Common.{◌≡◌, ◌⊎◌, Bool, Err, IfOk, List, Ok, Result, false, inl, inr, refl, true, ⊎_elim, ℕ}
use Rattle.command_line.specs.declared.settings.Draw.{Draw}
use Rattle.execution_commands.specs.Checks.{CheckedText}
use Rattle.execution_commands.specs.Verdicts.{IsVerdictText, is_allowed, verdict_status}
use Rattle.execution_file.specs.Recorded.{Recorded}
use Rattle.program_files.specs.declared.exit_status.ExitStatus.{ExitStatus}
use Rattle.program_files.proofs.Begun.{whole}
use Rattle.program_files.proofs.Failing.{failed_too}
use Rattle.view_commands.specs.Drawings.{BeginsFound, DrawsBy, DrawsExecution, IsAskable, IsBegunBy, IsCheckedEnd, IsExecutionEnd, IsRunEnd, PrintsFound}
use Rattle.program_files.specs.declared.failure.CommandFailure.{CommandFailure}
use Rattle.program_files.specs.declared.failure.CommandFailure.TheVariants as failures

pub draws_so : (asked : Draw) (file old new : List ℕ) (made : CheckedText file) (r : Result ExitStatus CommandFailure) → IsAskable asked →
    IfOk r (λ _. PrintsFound (is_allowed made.checked.finding) asked made.execution (IsVerdictText made.checked) old new) →
    IfOk r (λ status. status ≡ verdict_status made.checked.finding) → IfOk r (DrawsExecution asked file old new)
draws_so asked file old new made (Ok status) askable prints is_status = record { made = made; askable = askable; prints = prints; is_status = is_status }
draws_so asked file old new made (Err e) askable prints is_status = tt

pub end_so : (asked : Draw) (file : List ℕ) (made : CheckedText file) (failed : Type 0) (e : CommandFailure) → IsAskable asked →
    IsCheckedEnd asked made.execution (is_allowed made.checked.finding) failed e → IsExecutionEnd asked file failed e
end_so asked file made failed (failures.Naming fault) askable h =
    inr (inr (inr (inr (fault, refl, record { made = made; askable = askable; allowed = h.0; named = h.1 }))))
end_so asked file made failed _ askable h = inl h

-- a run that isn't drawn for another cause than the output
pub run_end_too : (asked : Draw) (image text : List ℕ) (budget : ℕ) (failed : Type 0) (e : CommandFailure) → IsRunEnd asked image text budget ⊥ e → IsRunEnd asked image text budget failed e
run_end_too asked image text budget failed f h = ⊎_elim (λ memory. inl memory)
    (λ q. ⊎_elim (λ r. inr (inl (failed_too asked.run.program text budget image f (λ none. absurd none) r))) (λ named. inr (inr named)) q) h

begins : (allowed : Bool) (asked : Draw) (execution : Recorded) (IsSaid : List ℕ → Type 0) (old new : List ℕ) →
    PrintsFound allowed asked execution IsSaid old new → BeginsFound allowed asked execution IsSaid old new
begins true asked execution IsSaid old new h = h
begins false asked execution IsSaid old new h = (h.0, h.1, whole _ _ _ h.2)

-- what was printed has begun too
pub drawn_begun : (b : Bool) (asked : Draw) (image input text : List ℕ) (budget : ℕ) (old new : List ℕ) (status : ExitStatus) →
    DrawsBy b asked image input text budget old new status → IsBegunBy b asked image input text budget old new
drawn_begun true asked image input text budget old new status d = record {
  made = d.made;
  askable = d.askable;
  began = begins (is_allowed d.made.checked.finding) asked d.made.execution (IsVerdictText d.made.checked) old new d.prints;
}
drawn_begun false asked image input text budget old new status d = record { drawn = d.drawn; sound = d.sound; began = whole _ _ _ d.prints }
