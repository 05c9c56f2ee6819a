-- The finder's refusal is one of a hunt, and what isn't saved is refused for memory or by the number of the output.
use Rattle.std.proofs.Common.{◌≡◌, ◌⊎◌, ℕ, Bool, Err, List, None, Option, Result, Some, ap, false, inl, inr, refl, ⊎_elim}
use Rattle.host_io.specs.declared.error.RunError.TheVariants as refusals
use Rattle.command_line.specs.declared.settings.Search.{Search}
use Rattle.host_io.specs.declared.load_error.LoadError.{LoadError as ImageCause}
use Rattle.hunt_commands.proofs.Refused.{told_so}
use Rattle.hunt_commands.specs.Asked.{IsHuntRefusal, IsRefusedSo}
use Rattle.hunter.specs.Hunts.{IsHuntReason, IsImageCause, has_bad_range}
use Rattle.hunter.specs.declared.error.HuntError.{HuntError}
use Rattle.hunter.specs.declared.error.HuntError.TheVariants as hunting
use Rattle.hunter.specs.declared.settings.HuntSettings.{HuntSettings}
use Rattle.program_files.specs.Failures.{failure_number}
use Rattle.weak_commands.specs.Saved.{IsUnsavedIn, IsUnwrittenIn}
use Rattle.program_files.specs.declared.failure.CommandFailure.{CommandFailure}
use Rattle.program_files.specs.declared.failure.CommandFailure.TheVariants as failures
use Rattle.weak_hunter.specs.declared.error.WeakHuntError.{WeakHuntError}
use Rattle.weak_hunter.specs.declared.error.WeakHuntError.TheVariants as weakly

pub refusal_so : (weak : Bool) (s : HuntSettings) (image : List ℕ) (failed other : Type 0) (e : HuntError) → (failed → other) →
    IsHuntReason s image e ⊎ ((e ≡ hunting.Run refusals.SinkFailed) × failed) → IsHuntRefusal weak s image other (weakly.Hunt e)
refusal_so weak s image failed other e more h = ⊎_elim (λ why. inl why) (λ sink. inr (sink.0, more sink.1)) h

unwritten_number : (wasnt_given : List ℕ → Type 0) (folder : List ℕ) (f : CommandFailure) → IsUnwrittenIn wasnt_given folder f → failure_number f ≡ 21
unwritten_number wasnt_given folder (failures.Unwritten path) h = refl
unwritten_number wasnt_given folder _ h = absurd h

pub unsaved_number : (wasnt_given : List ℕ → Type 0) (folder : Option (List ℕ)) (f : CommandFailure) → IsUnsavedIn wasnt_given folder f →
    (failure_number f ≡ 20) ⊎ (failure_number f ≡ 21)
unsaved_number wasnt_given None f h = absurd h
unsaved_number wasnt_given (Some folder) f h = ⊎_elim (λ memory. inl (ap failure_number memory)) (λ u. inr (unwritten_number wasnt_given folder f u)) h

-- the finder's refusal is told
pub finder_told : {X : Type 0} (search : Search) (fault : Option HuntError) (s : HuntSettings) (image : List ℕ) (failed : Type 0) (e : HuntError) → has_bad_range s ≡ false →
    ((r : HuntError) → fault ≡ Some r → ◌≡◌ {A = Result X HuntError} (Err e) (Err r)) →
    (fault ≡ None → IsHuntRefusal false s image failed (weakly.Hunt e)) →
    ((cause : ImageCause) → fault ≡ None → IsImageCause s image cause →
    ◌≡◌ {A = Result X HuntError} (Err e) (Err (hunting.Run (refusals.Image cause)))
    ⊎ ◌≡◌ {A = Result X HuntError} (Err e) (Err (hunting.Run refusals.OutOfMemory))) →
    IsRefusedSo search false fault s image failed (failures.Hunt (weakly.Hunt e))
finder_told {X} search fault s image failed e good settings errors loads = told_so {X = X} search false fault s image failed (weakly.Hunt e) good (λ r f. hunts r (settings r f)) errors
    (λ cause f i. ⊎_elim (λ h. inl (hunts (hunting.Run (refusals.Image cause)) h)) (λ h. inr (hunts (hunting.Run refusals.OutOfMemory) h)) (loads cause f i))
  where
    same : (r : HuntError) → ◌≡◌ {A = Result X HuntError} (Err e) (Err r) → e ≡ r
    same r q = cc

    hunts : (r : HuntError) → ◌≡◌ {A = Result X HuntError} (Err e) (Err r) → ◌≡◌ {A = Result X WeakHuntError} (Err (weakly.Hunt e)) (Err (weakly.Hunt r))
    hunts r q = ap (λ (x : HuntError). Err (weakly.Hunt x)) (same r q)
