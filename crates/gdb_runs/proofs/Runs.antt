-- What is so of a run is so of the same run.
use Rattle.std.proofs.Common.{◌≡◌, subst}
use Rattle.gdb_runs.specs.declared.debugged.Debugged.{Debugged}
use Rattle.gdb_runs.specs.Sessions.{OfRun, Recorded}

pub of_same : (a b : Debugged) (p : Recorded → Type 0) → b ≡ a → OfRun b p → OfRun a p
of_same a b p e x = subst (λ (d : Debugged). OfRun d p) e x
