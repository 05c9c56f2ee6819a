-- What a call that writes a text answers, and what its caller then says of it.
use Rattle.std.proofs.Common.{◌≡◌, ◌<◌, ◌⊎◌, ◌++◌, ℕ, List, Err, IfErr, Ok, OnErr, OnOk, Result, ap, append-nil, arith, inl, inr, refl, sym}
use Rattle.host_io.specs.Taken.{BeganText, WritesText}
use Rattle.host_io.specs.declared.error.RunError.{RunError}
use Rattle.host_io.specs.declared.error.RunError.TheVariants.{OutOfMemory, SinkFailed}

pub where_done : (r : Result (Unit {0}) RunError) (P Q : Type 0) → (P → Q) → OnOk r P → OnOk r Q
where_done (Ok v) P Q f h = f h
where_done (Err e) P Q f h = tt

pub where_refused : (r : Result (Unit {0}) RunError) (P Q : Type 0) → (P → Q) → OnErr r P → OnErr r Q
where_refused (Ok v) P Q f h = tt
where_refused (Err e) P Q f h = f h

-- a sink that refused has failed, and want of memory is one of the reasons
pub refused : (r : Result (Unit {0}) RunError) (Failed : Type 0) (A : RunError → Type 0) → (r ≡ Err SinkFailed → Failed) → IfErr r (λ e. (e ≡ OutOfMemory) ⊎ (e ≡ SinkFailed)) →
    IfErr r (λ e. ((e ≡ OutOfMemory) ⊎ A e) ⊎ ((e ≡ SinkFailed) × Failed))
refused (Ok v) Failed A failed h = tt
refused (Err e) Failed A failed h = elim h [
  | inl memory ↦ inl (inl memory)
  | inr sink ↦ inr (sink, failed (ap Err sink))
]

-- the text was put as a whole
pub put_at_once : (text took : List ℕ) (failed : ℕ) (r : Result (Unit {0}) RunError) (took_then : List ℕ) (failed_then : ℕ) →
    OnOk r (took_then ≡ took ++ text) → OnErr r (BeganText took took_then text) → OnErr r (failed < failed_then) → OnErr r (r ≡ Err SinkFailed) →
    WritesText text took failed r took_then failed_then
put_at_once text took failed (Ok v) took_then failed_then done begun fails only = record { ok = done; begun = tt; sink = λ e. cc; errors = tt }
put_at_once text took failed (Err e) took_then failed_then done begun fails only = record { ok = tt; begun = begun; sink = λ s. fails; errors = inr (is_sink only) }
  where
    is_sink : ◌≡◌ {A = Result (Unit {0}) RunError} (Err e) (Err SinkFailed) → e ≡ SinkFailed
    is_sink q = cc

-- memory was refused before any of it was put
pub none_put : (text took : List ℕ) (failed : ℕ) → WritesText text took failed (Err OutOfMemory) took failed
none_put text took failed = record { ok = tt; begun = record { count = 0; within = omega arith; bytes = sym (append-nil took) }; sink = λ e. absurd (no_sink e); errors = inl refl }
  where
    no_sink : ◌≡◌ {A = Result (Unit {0}) RunError} (Err OutOfMemory) (Err SinkFailed) → ⊥
    no_sink q = cc
