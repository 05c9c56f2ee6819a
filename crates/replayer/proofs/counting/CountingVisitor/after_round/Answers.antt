use Rattle.std.proofs.Common.{◌≡◌, ℕ, Some, slice_get, subst}
use Rattle.hart_step.specs.declared.hart.Hart.{Hart}
use Rattle.replayer.proofs.RoundCount.{counted_next}
use Rattle.replayer.proofs.counting.CountingVisitor.after_round.Goals as goal

pub returns-clause-known : goal.returns-clause-known
returns-clause-known c = λ first start rounds done few h d. (
  h.0,
  counted_next first.hart c.args.self.now.before c.args.self.now.after c.done_by-self.result start c.args.machine.now done h.1 d
      (subst (λ (n : ℕ). (x : Hart) → slice_get c.args.machine.now.harts n ≡ Some x → c.done_by-self.result ≡ x.done) h.0 c.done_by-self.ensures),
)
