use Rattle.std.proofs.Common.{ℕ, ◌≤◌, List, [], ◌∷◌, arith}
use Rattle.plan_hunt.specs.Steps.{least}
use Rattle.plan_hunt.proofs.size.least.Goals as goal

least_small : (row : List ℕ) → least row ≤ 1000000
least_small [] = omega arith
least_small (n ∷ ns) = omega (arith, least_small ns)

pub loop-quota-init : goal.loop-quota-init
loop-quota-init c = record { so_far = omega (arith, least_small c.args.row.now); few = omega arith }
