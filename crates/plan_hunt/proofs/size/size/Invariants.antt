use Rattle.std.proofs.Common.{◌≡◌, ◌+◌, drop, map}
use Rattle.plan_hunt.specs.Steps.{size}
use Rattle.plan_hunt.proofs.size.size.Given as goal

-- the size so far, and of what is left, are that of all rows
abbrev pub invariant-loop-row : goal.invariant-loop-row
invariant-loop-row l = l.total + size (map (λ r. r.items) (drop l.row-index l.rows)) ≡ size (map (λ r. r.items) l.rows)
