use Rattle.std.proofs.Common.{arith, subst, sym, List, ℕ, ◌≡◌}
use Rattle.std.proofs.lemmas.Grind.{common_steps}
use Rattle.round_planner.specs.PlanText.{ReadsAs, plan_text}
use Rattle.round_planner.specs.Quotas.{IsPlan}
use Rattle.round_planner.proofs.Texts.{reads}
use Rattle.round_planner.proofs.plan.Plan.text.Goals as goal

pub returns-clause-reads : goal.returns-clause-reads
returns-clause-reads c =
    let whole : c.write_rows.new.text.items ≡ plan_text c.args.self.now.rows = grind (arith, common_steps, c.in_ok-write_rows.ensures, c.deref.ensures.value, c.self.view_is) in
    let holds : IsPlan c.args.self.now = subst IsPlan c.self.view_is c.self.invariant in
    subst (λ (t : List ℕ). ReadsAs t c.args.self.now.rows) (sym whole) (reads c.args.self.now holds)
