-- Files that couldn't be read, and outputs that failed.
use Rattle.std.proofs.Common.{◌≡◌, ◌⊎◌, ◌<◌, ℕ, List, Option, None, Result, Ok, Err, IfErr, ap, inl, inr, subst, sym, string_bytes, ⊎_elim}
use Rattle.command_line.specs.declared.settings.Program.{Program}
use Rattle.host_io.proofs.Answered.{no_fault}
use Rattle.host_io.specs.Writes.{IsFaultOr, WritesAnswer}
use Rattle.host_io.specs.declared.error.RunError.{RunError}
use Rattle.host_io.specs.declared.error.RunError.TheVariants as refusals
use Rattle.program_files.proofs.Told.{on_error}
use Rattle.program_files.specs.Asked.{RefusedSetRun}
use Rattle.program_files.specs.Relations.{FileRelations}
use Rattle.program_files.specs.Failures.{HasFailed, IsCutOff, IsFileFailure, TellsFault}
use Rattle.program_files.specs.declared.failure.CommandFailure.{CommandFailure}
use Rattle.program_files.specs.declared.failure.CommandFailure.TheVariants as failures
use Rattle.program_files.specs.declared.files.FileFault.{FileFault}

-- ---- files

-- a file couldn't be read, and that is told
pub unread : (files : FileRelations) (path : List ℕ) (fault : FileFault) (f : CommandFailure) → files.lacks path fault → TellsFault path fault f →
    IsFileFailure files (λ named. named ≡ path) ⊥ f
unread files path fault (failures.Refused error) lack told = told
unread files path fault (failures.File text cause) lack told =
    (told.0, subst (λ (p : List ℕ). files.lacks p cause) (sym told.0) (subst (λ (c : FileFault). files.lacks path c) (sym told.1) lack))
unread files path fault _ lack told = absurd told

-- the file is one of more that are named, and the image is without the object where it was so before
pub named_too : (files : FileRelations) (is_one is_other : List ℕ → Type 0) (one other : Type 0) (f : CommandFailure) →
    ((path : List ℕ) → is_one path → is_other path) → (one → other) → IsFileFailure files is_one one f → IsFileFailure files is_other other f
named_too files is_one is_other one other (failures.Refused error) more without h = h
named_too files is_one is_other one other (failures.File text fault) more without h = (more (string_bytes text) h.0, h.1)
named_too files is_one is_other one other failures.NoSpurious more without h = without h
named_too files is_one is_other one other _ more without h = absurd h

-- ---- outputs

-- a run that is refused, as is told of another output
pub failed_too : {failed other : Type 0} (program : Program) (text : List ℕ) (budget : ℕ) (image : List ℕ) (f : CommandFailure) → (failed → other) →
    RefusedSetRun program text budget image failed f → RefusedSetRun program text budget image other f
failed_too program text budget image f more r = record {
  settings = r.settings;
  error = r.error;
  set = r.set;
  tells = r.tells;
  in_order = r.in_order;
  reason = λ none. ⊎_elim (λ why. inl why) (λ sink. inr (sink.0, more sink.1)) (r.reason none);
}

-- a call that fails for memory or its sink was cut off
pub cut_off : {X failed : Type 0} (r : Result X RunError) → (r ≡ Err refusals.SinkFailed → failed) → IfErr r (λ e. (e ≡ refusals.OutOfMemory) ⊎ (e ≡ refusals.SinkFailed)) →
    IfErr r (IsCutOff failed)
cut_off (Ok v) sink h = tt
cut_off (Err e) sink h = ⊎_elim (λ memory. inl memory) (λ is. inr (is, sink (ap Err is))) h

-- with nothing out of range it is for another reason, of which want of memory is one, or the sink failed
pub why_cut : {S A E : Type 0} {took : S → List ℕ} {failures : S → ℕ} {IsText : A → List ℕ → Type 0} {memory sink : E} {old new : S} (fault : Option E) (IsReason : E → Type 0) (r : Result A E) →
    WritesAnswer took failures IsText (IsFaultOr fault IsReason) memory sink old new r → IsReason memory → fault ≡ None →
    IfErr r (λ e. IsReason e ⊎ ((e ≡ sink) × (failures old < failures new)))
why_cut fault IsReason (Ok a) w memory none = tt
why_cut fault IsReason (Err e) w memory none =
    ⊎_elim (λ h. inl (no_fault fault IsReason e none h.0)) (λ h. ⊎_elim (λ m. inl (subst IsReason (sym m) memory)) (λ s. inr s) h.0) w.refused

-- the same of an output
pub why_failed : {O A E : Type 0} {took : O → List ℕ} {failures : O → ℕ} {IsText : A → List ℕ → Type 0} {memory sink : E} {old new : O} (is_stuck : O → Type 0)
    (fault : Option E) (IsReason : E → Type 0) (r : Result A E) →
    WritesAnswer took failures IsText (IsFaultOr fault IsReason) memory sink old new r → IsReason memory → fault ≡ None →
    IfErr r (λ e. IsReason e ⊎ ((e ≡ sink) × HasFailed failures is_stuck old new))
why_failed is_stuck fault IsReason r w memory none = on_error r _ _ (λ e h. ⊎_elim (λ why. inl why) (λ s. inr (s.0, inl s.1)) h) (why_cut fault IsReason r w memory none)
