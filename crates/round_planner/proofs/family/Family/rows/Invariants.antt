use Rattle.std.proofs.Common.{◌≡◌, map}
use Rattle.round_planner.specs.Families.{plan_rows}
use Rattle.round_planner.proofs.family.Family.rows.Given as goal

-- the rows so far
abbrev pub invariant-loop-row : goal.invariant-loop-row
invariant-loop-row l = map (λ r. r.items) l.rows.items ≡ plan_rows l.self l.number l.row
