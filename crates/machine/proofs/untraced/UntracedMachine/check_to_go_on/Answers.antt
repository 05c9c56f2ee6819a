use Rattle.std.proofs.Common.{length, ap, subst, arith}
use Rattle.pages.specs.Memory.{IsBytes, Memory}
use Rattle.machine.proofs.UntracedRounds.{CanGoOn, traces_go_on}
use Rattle.machine.proofs.untraced.UntracedMachine.check_to_go_on.Goals as goal

pub returns : goal.returns
returns c = λ n es few last.
    let bytes = ap (λ (m : Memory). m.bytes) c.pages-pages.ensures in
    let can = subst CanGoOn c.self.view_is (record {
      bytes = subst IsBytes bytes c.bytes_fit.ensures;
      few = omega (arith, ap length bytes, c.count-pages.ensures.bytes, c.count-pages.ensures.most);
      size = c.sizes_agree.ensures;
      quotas = c.harts-harts.ensures.in_range;
      budget = omega (arith, c.budget-budget.ensures.budget, c.budget-budget.ensures.few_budget);
    }) in
    traces_go_on n last.0 c.args.self.now last.2.0 es last.1 can few last.2.1
