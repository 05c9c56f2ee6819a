use Rattle.std.proofs.Common.{◌≡◌, ◌≤◌}
use Rattle.plan_hunt.specs.Steps.{size}
use Rattle.plan_hunt.proofs.shrinking.shrink_to.Given as goal

-- the plan is for the same harts, with the same budget, isn't larger, and ends the same
abbrev pub invariant-loop-draft : goal.invariant-loop-draft
invariant-loop-draft g l = record {
  harts : l.draft.harts ≡ l.fn.draft.harts;
  budget : l.draft.budget ≡ l.fn.draft.budget;
  no_larger : size l.draft.rows ≤ size l.fn.draft.rows;
  same : g.Q.PlanRuns.ends l.runs l.draft ≡ l.ending;
}

abbrev pub decreases-loop-draft : goal.decreases-loop-draft
decreases-loop-draft g l = size l.draft.rows
