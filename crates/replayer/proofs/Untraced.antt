-- Rounds after rounds of a machine that keeps no trace.
use Rattle.std.proofs.Common.{ℕ, ◌+◌, subst}
use Rattle.machine.specs.Machine.{Running}
use Rattle.machine.specs.Untraced.{IsAfter, IsUntraced, Untraced}
use Rattle.machine.proofs.Repeated.{no_rounds}

pub none_after : (u : Untraced) → IsAfter 0 u u
none_after u = λ m i. subst (λ (x : Running). IsUntraced x u) (no_rounds m) i
