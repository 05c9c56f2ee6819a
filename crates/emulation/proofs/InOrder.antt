-- The order of refusals, where only the answer is another.
use Rattle.std.proofs.Common.{◌≡◌, Err, List, Ok, Result, ap, inl, inr, ℕ, ⊎_elim}
use Rattle.host_io.specs.declared.error.RunError.{RunError}
use Rattle.round_planner.specs.Settings.{RefusedInOrder}
use Rattle.round_planner.specs.declared.settings.Settings.{Settings}

as_refused : {X Y : Type 0} (s : Settings) (file : List ℕ) (r : Result X RunError) (r' : Result Y RunError) → ((e : RunError) → r ≡ Err e → r' ≡ Err e) →
    RefusedInOrder s file r → RefusedInOrder s file r'
as_refused s file r r' same o = record {
  settings = λ e q. same e (o.settings e q);
  image = λ cause q i. ⊎_elim (λ p. inl (same _ p)) (λ p. inr (same _ p)) (o.image cause q i);
  plan = λ cause q i p. ⊎_elim (λ h. inl (same _ h)) (λ h. inr (same _ h)) (o.plan cause q i p);
}

pub answered_in_order : {X Y : Type 0} (s : Settings) (file : List ℕ) (x : X) (y : Y) → RefusedInOrder s file (Ok x) → RefusedInOrder s file (Ok y)
answered_in_order {X} {Y} s file x y o = as_refused s file (Ok x) (Ok y) (λ e q. absurd (none x e q)) o
  where
    none : {X : Type 0} (x : X) (e : RunError) → ◌≡◌ {A = Result X RunError} (Ok x) (Err e) → ⊥
    none x e q = cc

pub refused_in_order : {X Y : Type 0} (s : Settings) (file : List ℕ) (d : RunError) → RefusedInOrder {X = X} s file (Err d) → RefusedInOrder {X = Y} s file (Err d)
refused_in_order {X} {Y} s file d o = as_refused {X = X} {Y = Y} s file (Err d) (Err d) (λ e q. ap Err (same d e q)) o
  where
    same : {X : Type 0} (d e : RunError) → ◌≡◌ {A = Result X RunError} (Err d) (Err e) → d ≡ e
    same d e q = cc
