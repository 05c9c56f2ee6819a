-- A search that is refused is refused as the line's.
use Rattle.std.proofs.Common.{◌≡◌, ◌⊎◌, ◌∙◌, ℕ, Bool, Err, List, None, Option, Result, Some, ap, false, inl, inr, subst, sym, true, ⊎_elim}
use Rattle.command_line.specs.declared.settings.Search.{Search}
use Rattle.host_io.specs.declared.error.RunError.TheVariants as refusals
use Rattle.host_io.specs.declared.load_error.LoadError.{LoadError as ImageCause}
use Rattle.hunt_commands.specs.Asked.{IsFaultReason, IsGuestReason, IsHuntRefusal, IsReason, IsReasonOf, IsRefusedSo}
use Rattle.hunt_commands.specs.Settings.{IsNamed}
use Rattle.program_files.specs.declared.failure.CommandFailure.{CommandFailure}
use Rattle.program_files.specs.declared.failure.CommandFailure.TheVariants.{Hunt as Hunted}
use Rattle.hunter.specs.Hunts.{IsHuntReason, IsImageCause, has_bad_range}
use Rattle.hunter.specs.declared.error.HuntError.{HuntError}
use Rattle.hunter.specs.declared.error.HuntError.TheVariants as hunting
use Rattle.hunter.specs.declared.settings.HuntSettings.{HuntSettings}
use Rattle.program_files.specs.declared.fault.NamingFault.{NamingFault}
use Rattle.weak_hunter.specs.declared.error.WeakHuntError.{WeakHuntError}
use Rattle.weak_hunter.specs.declared.error.WeakHuntError.TheVariants as hunts

-- what refuses a hunt, but for a bad range
guest_reason : (s : HuntSettings) (image : List ℕ) (failed : Type 0) (e : HuntError) → has_bad_range s ≡ false →
    IsHuntReason s image e ⊎ ((e ≡ hunting.Run refusals.SinkFailed) × failed) → IsGuestReason s image failed e
guest_reason s image failed e good h = ⊎_elim (λ r. ⊎_elim (λ m. inl m) (λ q. ⊎_elim (λ i. inr (inr i)) (λ bad. absurd (both bad.0)) q) r) (λ sink. inr (inl sink)) h
  where
    both : has_bad_range s ≡ true → ⊥
    both bad = cc

pub reason_so : (weak : Bool) (s : HuntSettings) (image : List ℕ) (failed : Type 0) (e : WeakHuntError) → has_bad_range s ≡ false →
    IsHuntRefusal weak s image failed e → IsReason weak s image failed e
reason_so weak s image failed (hunts.Hunt e) good h = guest_reason s image failed e good h
reason_so weak s image failed (hunts.Unconfirmed n) good h = h

-- a hunt whose sink failed, as is told of its output
pub refusal_too : (is weak : Bool) (s : HuntSettings) (image : List ℕ) (failed other : Type 0) (e : WeakHuntError) → is ≡ weak → (failed → other) →
    IsHuntRefusal is s image failed e → IsHuntRefusal weak s image other e
refusal_too is weak s image failed other (hunts.Hunt e) same more h = ⊎_elim (λ why. inl why) (λ sink. inr (sink.0, more sink.1)) h
refusal_too is weak s image failed other (hunts.Unconfirmed n) same more h = sym same ∙ h

-- what refuses one without an output refuses it
guest_too : (s : HuntSettings) (image : List ℕ) (failed : Type 0) (e : HuntError) → IsGuestReason s image ⊥ e → IsGuestReason s image failed e
guest_too s image failed e h = ⊎_elim (λ memory. inl memory) (λ q. ⊎_elim (λ sink. absurd sink.1) (λ i. inr (inr i)) q) h

-- the refusal of the hunter is told
pub told_so : {X : Type 0} (search : Search) (weak : Bool) (fault : Option HuntError) (s : HuntSettings) (image : List ℕ) (failed : Type 0) (e : WeakHuntError) →
    has_bad_range s ≡ false →
    ((r : HuntError) → fault ≡ Some r → ◌≡◌ {A = Result X WeakHuntError} (Err e) (Err (hunts.Hunt r))) →
    (fault ≡ None → IsHuntRefusal weak s image failed e) →
    ((cause : ImageCause) → fault ≡ None → IsImageCause s image cause →
    ◌≡◌ {A = Result X WeakHuntError} (Err e) (Err (hunts.Hunt (hunting.Run (refusals.Image cause))))
    ⊎ ◌≡◌ {A = Result X WeakHuntError} (Err e) (Err (hunts.Hunt (hunting.Run refusals.OutOfMemory)))) →
    IsRefusedSo search weak fault s image failed (Hunted e)
told_so {X} search weak fault s image failed e good settings errors loads = record {
  of_settings = λ r f. ap Hunted (same (hunts.Hunt r) (settings r f));
  of_image = λ cause f i. ⊎_elim (λ h. inl (ap Hunted (same (hunts.Hunt (hunting.Run (refusals.Image cause))) h)))
      (λ h. inr (ap Hunted (same (hunts.Hunt (hunting.Run refusals.OutOfMemory)) h))) (loads cause f i);
  reason = λ f. reason_so weak s image failed e good (errors f);
}
  where
    same : (r : WeakHuntError) → ◌≡◌ {A = Result X WeakHuntError} (Err e) (Err r) → e ≡ r
    same r q = cc

-- why a search is refused whose bytes can't be looked at
pub fault_so : (search : Search) (weak : Bool) (fault : Option HuntError) (s : HuntSettings) (image : List ℕ) (failed : Type 0) (wrong : NamingFault) (f : CommandFailure) →
    IsNamed search image (Some wrong) →
    ((r : HuntError) → fault ≡ Some r → f ≡ Hunted (hunts.Hunt r)) →
    ((cause : ImageCause) → fault ≡ None → IsImageCause s image cause →
    (f ≡ Hunted (hunts.Hunt (hunting.Run (refusals.Image cause)))) ⊎ (f ≡ Hunted (hunts.Hunt (hunting.Run refusals.OutOfMemory)))) →
    (fault ≡ None → IsFaultReason wrong s image f) → IsRefusedSo search weak fault s image failed f
fault_so search weak fault s image failed wrong f named settings loads reason = record {
  of_settings = settings;
  of_image = loads;
  reason = λ none. ⊎_elim (λ is. subst (λ (x : CommandFailure). IsReasonOf search weak s image failed x) (sym is) named)
      (λ g. subst (λ (x : CommandFailure). IsReasonOf search weak s image failed x) (sym g.2) (guest_too s image failed g.0 g.1)) (reason none);
}

-- the same of a search for a smaller plan
pub guest_told_so : {X : Type 0} (search : Search) (fault : Option HuntError) (s : HuntSettings) (image : List ℕ) (e : HuntError) →
    has_bad_range s ≡ false →
    ((r : HuntError) → fault ≡ Some r → ◌≡◌ {A = Result X HuntError} (Err e) (Err r)) →
    (fault ≡ None → IsHuntReason s image e) →
    ((cause : ImageCause) → fault ≡ None → IsImageCause s image cause →
    ◌≡◌ {A = Result X HuntError} (Err e) (Err (hunting.Run (refusals.Image cause)))
    ⊎ ◌≡◌ {A = Result X HuntError} (Err e) (Err (hunting.Run refusals.OutOfMemory))) →
    IsRefusedSo search false fault s image ⊥ (Hunted (hunts.Hunt e))
guest_told_so {X} search fault s image e good settings errors loads = record {
  of_settings = λ r f. ap (λ (x : HuntError). Hunted (hunts.Hunt x)) (same r (settings r f));
  of_image = λ cause f i. ⊎_elim (λ h. inl (ap (λ (x : HuntError). Hunted (hunts.Hunt x)) (same (hunting.Run (refusals.Image cause)) h)))
      (λ h. inr (ap (λ (x : HuntError). Hunted (hunts.Hunt x)) (same (hunting.Run refusals.OutOfMemory) h))) (loads cause f i);
  reason = λ f. guest_reason s image ⊥ e good (inl (errors f));
}
  where
    same : (r : HuntError) → ◌≡◌ {A = Result X HuntError} (Err e) (Err r) → e ≡ r
    same r q = cc
