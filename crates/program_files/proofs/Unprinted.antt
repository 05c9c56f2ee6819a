-- Where a command is refused, nothing was printed.
use Rattle.std.proofs.Common.{◌≡◌, ◌∙◌, ℕ, List, Err, IfErr, Ok, Result, ap, inl, inr, subst, sym, ⊎_elim}
use Rattle.host_io.specs.RunErrors.{number_of}
use Rattle.host_io.specs.Writes.{WritesAnswer}
use Rattle.host_io.specs.declared.error.RunError.{RunError}
use Rattle.program_files.specs.Failures.{IsTold, IsUnprinted, failure_number}
use Rattle.program_files.specs.declared.failure.CommandFailure.{CommandFailure}
use Rattle.program_files.specs.declared.failure.CommandFailure.TheVariants as failures

-- by the numbers of the call's own refusals
pub unprinted : {S A E : Type 0} {took : S → List ℕ} {failures : S → ℕ} {IsText : A → List ℕ → Type 0} {IsReason : E → Type 0} {old new : S} (number : E → ℕ) (memory sink : E) (r : Result A E) →
    number memory ≡ 20 → number sink ≡ 21 → WritesAnswer took failures IsText IsReason memory sink old new r → IfErr r (λ e. IsUnprinted (number e) (took old) (took new))
unprinted number memory sink (Ok a) of_memory of_sink w = tt
unprinted {S} {A} {E} {took} {failures} {IsText} {IsReason} {old} {new} number memory sink (Err e) of_memory of_sink w =
    ⊎_elim (λ h. inl (ap took h.1)) (λ h. inr (⊎_elim (λ m. inl (ap number m ∙ of_memory)) (λ s. inr (ap number s.0 ∙ of_sink)) h.0)) w.refused

-- what is said of a refusal is said of this one
pub at_err : {X E : Type 0} (r : Result X E) (e : E) (P : E → Type 0) → r ≡ Err e → IfErr r P → P e
at_err r e P is h = subst (λ x. IfErr x P) is h

-- a refusal that is told is that of the run
pub told_unprinted : {X : Type 0} (a : Result X RunError) (b : Result X CommandFailure) (old new : List ℕ) → IsTold a b →
    IfErr a (λ e. IsUnprinted (number_of e) old new) → IfErr b (λ f. IsUnprinted (failure_number f) old new)
told_unprinted (Ok v) (Ok w) old new e h = tt
told_unprinted (Ok v) (Err f) old new e h = absurd e
told_unprinted (Err e) (Ok w) old new q h = absurd q
told_unprinted (Err e) (Err (failures.Refused d)) old new q h = subst (λ (x : RunError). IsUnprinted (number_of x) old new) (sym q) h
told_unprinted (Err e) (Err (failures.Plan d line)) old new q h = subst (λ (x : RunError). IsUnprinted (number_of x) old new) (sym q) h
told_unprinted (Err e) (Err _) old new q h = absurd q
