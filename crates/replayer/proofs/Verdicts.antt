-- The verdict on the rounds so far.
use Rattle.std.proofs.Common.{◌≡◌, ℕ, ◌+◌, List, length, subst, sym, arith}
use Rattle.machine.specs.Machine.{Running}
use Rattle.recording.specs.Recorded.{Checkpoint}
use Rattle.replayer.specs.declared.verdict.Verdict.{Verdict}
use Rattle.replayer.specs.declared.verdict.Verdict.TheVariants.{Same, Differs}
use Rattle.replayer.specs.Replayed.{Agrees, IsNextVerdict, IsVerdictOn}
use Rattle.replayer.specs.Visits.{IsVerdictUpTo}
use Rattle.replayer.proofs.First.{up_to}

pub up_to_next : (ks : List Checkpoint) (every : ℕ) (m : Running) (n : ℕ) (P : Type 0) (v w : Verdict) → (P → Agrees ks every m (n + 1)) → ((P → ⊥) → Agrees ks every m (n + 1) → ⊥) →
    IsVerdictUpTo ks every m n v → IsNextVerdict v P (n + 1) w → IsVerdictUpTo ks every m (n + 1) w
up_to_next ks every m n P Same Same agrees differs before next = up_to (Agrees ks every m) n before (agrees next)
up_to_next ks every m n P Same (Differs k) agrees differs before next =
    subst (λ (i : ℕ). IsVerdictUpTo ks every m (n + 1) (Differs i)) (sym next.0) (omega arith, omega arith, λ j lo hi. before j lo (omega (arith, hi)), differs next.1)
up_to_next ks every m n P (Differs j) Same agrees differs before next = absurd next
up_to_next ks every m n P (Differs j) (Differs k) agrees differs before next =
    subst (λ (i : ℕ). IsVerdictUpTo ks every m (n + 1) (Differs i)) (sym next) (before.0, omega (arith, before.1), before.2, before.3)

pub up_to_all : (ks : List Checkpoint) (every : ℕ) (m : Running) (n : ℕ) (v : Verdict) → n ≡ length ks → IsVerdictUpTo ks every m n v → IsVerdictOn ks every m v
up_to_all ks every m n Same e before = λ j lo hi. before j lo (omega (arith, e, hi))
up_to_all ks every m n (Differs k) e before = (before.0, omega (arith, e, before.1), before.2, before.3)
