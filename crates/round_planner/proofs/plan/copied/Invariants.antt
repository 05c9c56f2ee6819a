use Rattle.std.proofs.Common.{◌≡◌, map, take}
use Rattle.round_planner.proofs.plan.copied.Given as goal

-- the rows so far
abbrev pub invariant-loop-row : goal.invariant-loop-row
invariant-loop-row l = map (λ r. r.items) l.copies.items ≡ take l.row-index (map (λ r. r.items) l.rows)
