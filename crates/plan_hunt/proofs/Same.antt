-- What `==` says of the endings of harts.
use Rattle.std.proofs.Common.{◌≡◌, Bool, List, rules}
use Rattle.std.specs.Bool.{Decides}
use Rattle.std.proofs.lemmas.Slice.Eq.{slice_eq-Decides}
use Rattle.plan_hunt.specs.declared.hart_ending.HartEnding.{HartEnding}
use Rattle.plan_hunt.specs.contracts.hart_ending.HartEndingPartialEq.TheImpl.{eq-value}
use lib.Pointwise.{pointwise}

same_hart : (a b : HartEnding) → Decides (eq-value.it a b) (a ≡ b)
same_hart a b = search rules

pub same_stops : (a b : List HartEnding) (r : Bool) → r ≡ pointwise eq-value.it a b → Decides r (a ≡ b)
same_stops a b r e = slice_eq-Decides same_hart a b r e
