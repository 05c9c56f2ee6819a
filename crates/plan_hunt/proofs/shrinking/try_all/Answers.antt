use Rattle.std.proofs.Common.{◌≡◌, ℕ, length, subst, arith}
use Rattle.plan_hunt.specs.Numbers.{count_steps}
use Rattle.plan_hunt.specs.Tried.{IsTried, NoneOf}
use Rattle.plan_hunt.proofs.Passes.{passed}
use Rattle.plan_hunt.proofs.shrinking.try_all.Goals as goal

pub returns : goal.returns
returns g c =
    let n : c.loop-number.number ≡ count_steps (length c.args.draft.now.rows) c.args.draft.now.harts = omega (arith, c.loop-number-test.false) in
    passed (g.Q.PlanRuns.ends c.args.runs.now) c.args.ending.now c.args.draft.now c.loop-number.draft c.loop-number.taken
    (subst (λ (k : ℕ). IsTried (g.Q.PlanRuns.ends c.args.runs.now) c.args.ending.now c.args.draft.now (NoneOf (g.Q.PlanRuns.ends c.args.runs.now) c.args.ending.now c.args.draft.now k) c.loop-number.taken c.loop-number.draft)
    n c.loop-number.invariant)
