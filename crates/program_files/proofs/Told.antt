-- What a caller of `explain` says of its answer, by what it said of the run's.
use Rattle.std.proofs.Common.{◌≡◌, ◌⊎◌, ℕ, List, Err, IfErr, IfOk, None, Ok, OnErr, OnOk, Result, ap, inl, inr, subst, sym, ⊎_elim}
use Rattle.command_line.specs.declared.settings.Program.{Program}
use Rattle.host_io.specs.declared.error.RunError.{RunError}
use Rattle.host_io.specs.declared.error.RunError.TheVariants as refusals
use Rattle.round_planner.specs.Settings.{IsReason, RefusedInOrder, settings_fault}
use Rattle.round_planner.specs.declared.settings.Settings.{Settings}
use Rattle.program_files.specs.Asked.{HasSettings, RefusedSetRun}
use Rattle.program_files.specs.Failures.{IsTold}
use Rattle.program_files.specs.declared.failure.CommandFailure.{CommandFailure}

-- by what a value has, what it has besides
pub on_value : {X E : Type 0} (r : Result X E) (P Q : X → Type 0) → ((x : X) → P x → Q x) → IfOk r P → IfOk r Q
on_value (Ok v) P Q f h = f v h
on_value (Err e) P Q f h = tt

pub on_error : {X E : Type 0} (r : Result X E) (P Q : E → Type 0) → ((e : E) → P e → Q e) → IfErr r P → IfErr r Q
on_error (Ok v) P Q f h = tt
on_error (Err e) P Q f h = f e h

pub where_done : {X E : Type 0} (r : Result X E) (P Q : Type 0) → (P → Q) → OnOk r P → OnOk r Q
where_done (Ok v) P Q f h = f h
where_done (Err e) P Q f h = tt

pub where_refused : {X E : Type 0} (r : Result X E) (P Q : Type 0) → (P → Q) → OnErr r P → OnErr r Q
where_refused (Ok v) P Q f h = tt
where_refused (Err e) P Q f h = f h

-- an answer stays
pub told_value : {X : Type 0} (a : Result X RunError) (b : Result X CommandFailure) (P : X → Type 0) → IsTold a b → IfOk a P → IfOk b P
told_value (Ok v) (Ok w) P e h = subst P (sym e) h
told_value (Ok v) (Err f) P e h = absurd e
told_value (Err e) (Ok w) P q h = absurd q
told_value (Err e) (Err f) P q h = tt

pub told_done : {X : Type 0} (a : Result X RunError) (b : Result X CommandFailure) (P : Type 0) → IsTold a b → OnOk a P → OnOk b P
told_done (Ok v) (Ok w) P e h = h
told_done (Ok v) (Err f) P e h = absurd e
told_done (Err e) (Ok w) P q h = absurd q
told_done (Err e) (Err f) P q h = tt

pub told_refused : {X : Type 0} (a : Result X RunError) (b : Result X CommandFailure) (P : Type 0) → IsTold a b → OnErr a P → OnErr b P
told_refused (Ok v) (Ok w) P e h = tt
told_refused (Ok v) (Err f) P e h = absurd e
told_refused (Err e) (Ok w) P q h = absurd q
told_refused (Err e) (Err f) P q h = h

-- a refusal is one, whatever there would have been else
err_at : {X Y : Type 0} (a b : RunError) → ◌≡◌ {A = Result X RunError} (Err a) (Err b) → ◌≡◌ {A = Result Y RunError} (Err a) (Err b)
err_at a b q = ap Err (same a b q)
  where
    same : {X : Type 0} (a b : RunError) → ◌≡◌ {A = Result X RunError} (Err a) (Err b) → a ≡ b
    same a b q = cc

pub in_order_at : {X Y : Type 0} (s : Settings) (image : List ℕ) (e : RunError) → RefusedInOrder {X = X} s image (Err e) → RefusedInOrder {X = Y} s image (Err e)
in_order_at s image e o = record {
  settings = λ d q. err_at e d (o.settings d q);
  image = λ cause q i. ⊎_elim (λ p. inl (err_at e (refusals.Image cause) p)) (λ p. inr (err_at e refusals.OutOfMemory p)) (o.image cause q i);
  plan = λ cause q i p. ⊎_elim (λ p. inl (err_at e (refusals.Plan cause) p)) (λ p. inr (err_at e refusals.OutOfMemory p)) (o.plan cause q i p);
}

-- a refusal that is told is that of the run
pub told_refusal : {X : Type 0} (failed : Type 0) (program : Program) (text : List ℕ) (budget : ℕ) (image : List ℕ) (s : Settings) (a : Result X RunError) (b : Result X CommandFailure) →
    HasSettings program text budget s → IsTold a b → RefusedInOrder s image a →
    (settings_fault s ≡ None → IfErr a (λ e. IsReason s image e ⊎ ((e ≡ refusals.SinkFailed) × failed))) → IfErr b (RefusedSetRun program text budget image failed)
told_refusal failed program text budget image s (Ok v) (Ok w) set e order errors = tt
told_refusal failed program text budget image s (Ok v) (Err f) set e order errors = absurd e
told_refusal failed program text budget image s (Err e) (Ok w) set q order errors = absurd q
told_refusal failed program text budget image s (Err e) (Err f) set tells order errors =
    record { settings = s; error = e; set = set; tells = tells; in_order = in_order_at s image e order; reason = errors }
