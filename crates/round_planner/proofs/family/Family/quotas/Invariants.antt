use Rattle.std.proofs.Common.{◌≡◌}
use Rattle.round_planner.specs.Families.{quotas}
use Rattle.round_planner.proofs.family.Family.quotas.Given as goal

-- the quotas of the harts so far
abbrev pub invariant-loop-hart : goal.invariant-loop-hart
invariant-loop-hart l = l.quotas.items ≡ quotas l.self l.number l.row l.hart
