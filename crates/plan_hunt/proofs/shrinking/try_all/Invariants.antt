use Rattle.plan_hunt.specs.Tried.{IsTried, NoneOf}
use Rattle.plan_hunt.proofs.shrinking.try_all.Given as goal

-- a smaller plan was taken, or none of the steps so far leads there
abbrev pub invariant-loop-number : goal.invariant-loop-number
invariant-loop-number g l = IsTried (g.Q.PlanRuns.ends l.runs) l.ending l.initial.draft (NoneOf (g.Q.PlanRuns.ends l.runs) l.ending l.initial.draft l.number) l.taken l.draft
