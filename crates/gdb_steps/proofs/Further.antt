-- Steps that are repeated.
use Rattle.std.proofs.Common.{◌≡◌, ℕ, suc, ◌<◌, ◌-◌, Bool, true, false, refl, sym, subst, arith}
use Rattle.std.specs.Prelude.{MatchBool}
use Rattle.gdb_runs.specs.declared.session.Standing.{Standing}
use Rattle.gdb_steps.specs.Steps.{Steps, StepsUpTo, stands_then, steps_further}
use Rattle.gdb_runs.specs.Sessions.{Recorded, State}

module _ (r : Recorded) (low high hart : ℕ) (s : State) where
  -- no step more
  pub stays_there : (n : ℕ) → n ≡ 0 → StepsUpTo r low high hart n s s.standing
  unfolding StepsUpTo
  stays_there n none = subst (λ (k : ℕ). StepsUpTo r low high hart k s s.standing) (sym none) refl

  module _ (u : Standing) (did : Steps r s hart u) where
    one_step : (n : ℕ) (t : Standing) (b : Bool) → steps_further r low high hart u ≡ b → MatchBool b (StepsUpTo r low high hart n (stands_then s u) t) (t ≡ u) →
        StepsUpTo r low high hart (suc n) s t
    unfolding StepsUpTo
    one_step n t b is rest =
        let P : Bool → Type 0 = λ x. MatchBool x (StepsUpTo r low high hart n (stands_then s u) t) (t ≡ u) in
        (u, did, subst P (sym is) rest)

    -- one, and it ends there
    pub ends_there : (n : ℕ) → 0 < n → steps_further r low high hart u ≡ false → StepsUpTo r low high hart n s u
    ends_there n some is =
        let more : suc (n - 1) ≡ n = omega arith in
        subst (λ (k : ℕ). StepsUpTo r low high hart k s u) more (one_step (n - 1) u false is refl)

    -- one, and others
    pub goes_further : (n k : ℕ) (t : Standing) → n ≡ suc k → steps_further r low high hart u ≡ true → StepsUpTo r low high hart k (stands_then s u) t →
        StepsUpTo r low high hart n s t
    goes_further n k t e is rest = subst (λ (j : ℕ). StepsUpTo r low high hart j s t) (sym e) (one_step k t true is rest)
