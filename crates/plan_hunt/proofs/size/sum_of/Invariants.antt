use Rattle.std.proofs.Common.{◌≡◌, ◌+◌, drop}
use Rattle.std.specs.List.{sum}
use Rattle.plan_hunt.proofs.size.sum_of.Given as goal

-- the sum so far, and of what is left, are the row's
abbrev pub invariant-loop-quota : goal.invariant-loop-quota
invariant-loop-quota l = l.total + sum (drop l.quota-index l.row) ≡ sum l.row
