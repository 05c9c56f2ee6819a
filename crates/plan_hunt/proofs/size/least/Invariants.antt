use Rattle.std.proofs.Common.{◌≡◌, ◌≤◌, drop, min}
use Rattle.plan_hunt.specs.Steps.{least}
use Rattle.plan_hunt.proofs.size.least.Given as goal

-- the least so far, and of what is left, are the row's
abbrev pub invariant-loop-quota : goal.invariant-loop-quota
invariant-loop-quota l = record {
  so_far : min l.least (least (drop l.quota-index l.row)) ≡ least l.row;
  few : l.least ≤ 1000000;
}
