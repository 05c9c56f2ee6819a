use Rattle.std.proofs.Common.{◌≡◌, ◌⊎◌, Err, Result, inl, inr, refl, ⊎_elim}
use Rattle.std.proofs.lemmas.Result.{err_from_is_err_and}
use Rattle.weak_hunter.specs.declared.error.WeakHuntError.{WeakHuntError}
use Rattle.weak_commands.proofs.executing.numbered_execution.Goals as goal

-- a refusal is one, whatever there would have been else
same : {X : Type 0} (a b : WeakHuntError) → ◌≡◌ {A = Result X WeakHuntError} (Err a) (Err b) → a ≡ b
same a b q = cc

one_of : {X : Type 0} (a b d : WeakHuntError) → ◌≡◌ {A = Result X WeakHuntError} (Err a) (Err b) ⊎ ◌≡◌ {A = Result X WeakHuntError} (Err a) (Err d) → (a ≡ b) ⊎ (a ≡ d)
one_of a b d h = ⊎_elim (λ q. inl (same a b q)) (λ q. inr (same a d q)) h

pub returns-in_err-execute_weakly-clause-errors : goal.returns-in_err-execute_weakly-clause-errors
returns-in_err-execute_weakly-clause-errors g c =
    let given = c.in_ok-given.given in
    let e = c.in_err-execute_weakly.field-0.0 in
    let p = err_from_is_err_and c.from_residual-in_err-execute_weakly.result c.from_residual-in_err-execute_weakly.ensures.1 in
    rw (p.1, p.2) (inr (record {
      image = given.image.items;
      input = given.input.items;
      given = c.in_ok-given.ensures.program;
      settings = c.program_settings-settings.result;
      program = c.program_settings-settings.ensures.program;
      error = e;
      is_error = refl;
      of_settings = λ r fault. same e _ (c.in_err-execute_weakly.ensures.settings r fault);
      of_image = λ cause none least. one_of e _ _ (c.in_err-execute_weakly.ensures.image cause none (rw c.as_slice-image.ensures.value least));
      reason = λ none. rw c.as_slice-image.ensures.value at (c.in_err-execute_weakly.ensures.errors none);
    }))

pub returns-clause-numbered : goal.returns-clause-numbered
returns-clause-numbered g c =
    let given = c.in_ok-given.given in
    record {
      image = given.image.items;
      input = given.input.items;
      given = c.in_ok-given.ensures.program;
      settings = c.program_settings-settings.result;
      program = c.program_settings-settings.ensures.program;
      allowed = rw (c.as_slice-image.ensures.value, c.as_slice-input.ensures.value) at c.in_ok-execute_weakly.ensures.allowed;
      made = rw (c.as_slice-image.ensures.value, c.as_slice-input.ensures.value) at c.in_ok-execute_weakly.ensures.makes;
    }
