use Rattle.std.proofs.Common.{All, take}
use Rattle.weak_hunter.specs.WeakHunts.{IsAllowedEnding}
use Rattle.plan_hunt.specs.declared.row.Row.{Row}
use Rattle.weak_hunter.proofs.confirming.confirm.Given as goal

-- the rows so far are confirmed
abbrev pub invariant-loop-row : goal.invariant-loop-row
invariant-loop-row l =
    All (λ (r : Row). IsAllowedEnding l.guest.opening.image.now l.guest.opening.input.now l.guest.opening.harts.now r.ending) (take l.row-index l.rows)
