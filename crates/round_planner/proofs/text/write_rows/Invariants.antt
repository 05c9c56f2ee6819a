use Rattle.std.proofs.Common.{◌≡◌, ◌++◌, drop, map}
use Rattle.round_planner.specs.PlanText.{plan_text}
use Rattle.round_planner.proofs.text.write_rows.Given as goal

-- what is left makes up the text
abbrev pub invariant-loop-row : goal.invariant-loop-row
invariant-loop-row l = l.text.items ++ plan_text (map (λ r. r.items) (drop l.row-index l.rows)) ≡ l.fn.text.items ++ plan_text (map (λ r. r.items) l.rows)
