-- A refusal is one, whatever there would have been else.
use Rattle.std.proofs.Common.{◌≡◌, ◌⊎◌, ◌<◌, ◌≤◌, ℕ, Err, IfErr, Ok, Result, ap, arith, inl, inr, refl, sym, ⊎_elim}
use Rattle.host_io.specs.declared.error.RunError.{RunError}
use Rattle.host_io.specs.declared.error.RunError.TheVariants as refusals
use Rattle.program_files.specs.Failures.{out_of_memory}
use Rattle.past_commands.specs.Refused.{IsAccepted, IsRefusal}
use Rattle.recording.specs.Recorded.{Recorded}
use Rattle.round_schedule.specs.Bounds.{AreNoWorkers, AreWorkers}
use Rattle.replayer.specs.Refusals.{RefusedInOrder}

err_at : {X Y : Type 0} (a b : RunError) → ◌≡◌ {A = Result X RunError} (Err a) (Err b) → ◌≡◌ {A = Result Y RunError} (Err a) (Err b)
err_at {X} a b q = ap Err (same a b q)
  where
    same : (a b : RunError) → ◌≡◌ {A = Result X RunError} (Err a) (Err b) → a ≡ b
    same a b q = cc

no_ok : {X : Type 0} (v : X) (e : RunError) → ◌≡◌ {A = Result X RunError} (Ok v) (Err e) → ⊥
no_ok v e q = absurd cc

-- of other values
pub refused_at : {X Y : Type 0} (n : ℕ) (r : Recorded) (e : RunError) → RefusedInOrder {X = X} n r (Err e) → RefusedInOrder {X = Y} n r (Err e)
refused_at n r e o = record {
  workers = λ bad. err_at e refusals.WorkersOutOfRange (o.workers bad);
  reasons = o.reasons;
  image = λ cause good least. ⊎_elim (λ q. inl (err_at e (refusals.Image cause) q)) (λ q. inr (err_at e refusals.OutOfMemory q)) (o.image cause good least);
  plan = λ cause good has least. ⊎_elim (λ q. inl (err_at e (refusals.Plan cause) q)) (λ q. inr (err_at e refusals.OutOfMemory q)) (o.plan cause good has least);
}

-- memory is refused behind what would refuse the run
pub memory_at : {X Y : Type 0} (n : ℕ) (r : Recorded) (v : X) → RefusedInOrder {X = X} n r (Ok v) → RefusedInOrder {X = Y} n r (Err refusals.OutOfMemory)
memory_at n r v o = record {
  workers = λ bad. absurd (no_ok v refusals.WorkersOutOfRange (o.workers bad));
  reasons = λ good. inl refl;
  image = λ cause good least. inr refl;
  plan = λ cause good has least. inr refl;
}

-- a run that was accepted has workers
pub are_workers : {X : Type 0} (n : ℕ) (r : Recorded) (v : X) → RefusedInOrder {X = X} n r (Ok v) → AreWorkers n
are_workers n r v o = (omega (arith, λ (lt : n < 1). no_ok v refusals.WorkersOutOfRange (o.workers (inl lt))), omega (arith, λ (lt : 16 < n). no_ok v refusals.WorkersOutOfRange (o.workers (inr lt))))

-- why a call was refused
pub refusal_of : {X : Type 0} (n : ℕ) (r : Recorded) (result : Result X RunError) → RefusedInOrder n r result → IfErr result (IsRefusal n r)
refusal_of n r (Ok v) o = tt
refusal_of n r (Err e) o = refused_at n r e o
