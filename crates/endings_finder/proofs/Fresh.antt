-- Harts before their first instructions are fresh.
use Rattle.std.proofs.Common.{◌≡◌, ℕ, zero, suc, List, refl, sym, subst, arith}
use Rattle.hart_step.specs.declared.hart.Hart.{Hart}
use Rattle.all_endings.specs.Factorizing.{IsFresh}
use Rattle.all_endings.specs.Offering.{AreFresh}
use Rattle.guest_rounds.specs.Opening.{opening_harts}

pub opening_fresh : (entry n i k : ℕ) → AreFresh (opening_harts entry n i k)
opening_fresh entry n i zero h start l e = absurd (omega (arith, l))
opening_fresh entry n i (suc k) zero start l e = subst (λ (s : Hart). IsFresh s) (sym e) (record { registers = refl; runs = refl })
opening_fresh entry n i (suc k) (suc h) start l e = opening_fresh entry n (suc i) k h start (omega (arith, l)) e

pub fresh_as : (hs : List Hart) (entry n k : ℕ) → hs ≡ opening_harts entry n 0 k → AreFresh hs
fresh_as hs entry n k e = subst AreFresh (sym e) (opening_fresh entry n 0 k)
