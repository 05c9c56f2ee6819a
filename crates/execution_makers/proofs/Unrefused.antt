-- Where nothing is refused before a run, nothing is refused in order.
use Rattle.std.proofs.Common.{◌≡◌, ◌⊎◌, ℕ, Err, List, Ok, Result, ⊎_elim}
use Rattle.host_io.specs.declared.error.RunError.{RunError}
use Rattle.round_planner.specs.Settings.{RefusedAs, RefusedInOrder}
use Rattle.round_planner.specs.declared.settings.Settings.{Settings}

no_refusal : {X : Type 0} (m : X) (e : RunError) → ◌≡◌ {A = Result X RunError} (Ok m) (Err e) → ⊥
no_refusal m e q = cc

never : {X : Type 0} (m : X) (e : RunError) → RefusedAs {X = X} e (Ok m) → ⊥
never m e h = ⊎_elim (λ q. no_refusal m e q) (λ q. no_refusal m _ q) h

pub in_order : {X Y : Type 0} (s : Settings) (file : List ℕ) (m : X) (r : Result Y RunError) → RefusedInOrder {X = X} s file (Ok m) → RefusedInOrder {X = Y} s file r
in_order s file m r o = record {
  settings = λ e q. absurd (no_refusal m e (o.settings e q));
  image = λ cause q i. absurd (never m _ (o.image cause q i));
  plan = λ cause q i p. absurd (never m _ (o.plan cause q i p));
}
