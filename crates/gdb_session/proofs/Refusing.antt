-- The order of refusals, behind what wasn't refused.
use Rattle.std.proofs.Common.{◌≡◌, Err, List, Ok, Result, ℕ, ⊎_elim}
use Rattle.host_io.specs.declared.error.RunError.{RunError}
use Rattle.round_planner.specs.Settings.{RefusedAs, RefusedInOrder}
use Rattle.round_planner.specs.declared.settings.Settings.{Settings}

none : {X : Type 0} (x : X) (e : RunError) → ◌≡◌ {A = Result X RunError} (Ok x) (Err e) → ⊥
none x e q = cc

unrefused : {X Y : Type 0} (x : X) (e : RunError) (r : Result Y RunError) → RefusedAs {X = X} e (Ok x) → RefusedAs e r
unrefused x e r = ⊎_elim (λ q. absurd (none x _ q)) (λ q. absurd (none x _ q))

-- what comes behind it may be refused for anything else
pub refused_behind : {X Y : Type 0} (s : Settings) (file : List ℕ) (x : X) (r : Result Y RunError) → RefusedInOrder s file (Ok x) → RefusedInOrder s file r
refused_behind s file x r o = record {
  settings = λ e q. absurd (none x e (o.settings e q));
  image = λ cause q i. unrefused x _ r (o.image cause q i);
  plan = λ cause q i p. unrefused x _ r (o.plan cause q i p);
}
