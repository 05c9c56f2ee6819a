use Rattle.std.proofs.Common.{◌≡◌, ℕ, ◌+◌, ◌-◌, ◌∙◌, Option, Some, ap, arith, slice_get, subst, sym}
use Rattle.hart_step.specs.declared.hart.Hart.{Hart}
use Rattle.replayer.specs.Visits.{HasSought}
use Rattle.replayer.proofs.PlaceSought.{found_here, not_here}
use Rattle.replayer.proofs.placing.SeekingVisitor.after_round.Goals as goal

pub returns-then-self-after-clause-known : goal.returns-then-self-after-clause-known
returns-then-self-after-clause-known c = λ first start rounds done few h d. (
  h.0,
  h.1,
  found_here first.hart first.place c.args.self.now.before c.done_by-after.result c.rounds.result (c.args.self.now.place - c.args.self.now.before) c.args.self.now.found c.args.self.now.last start c.args.machine.now rounds done
      (sym c.if-is_some.ensures) few (omega (arith, c.if-self-after.true, h.1)) c.rounds.ensures (ap (λ (n : ℕ). n - c.args.self.now.before) h.1)
      (subst (λ (n : ℕ). (x : Hart) → slice_get c.args.machine.now.harts n ≡ Some x → c.done_by-after.result ≡ x.done) h.0 c.done_by-after.ensures) d h.2,
)

pub returns-clause-known : goal.returns-clause-known
returns-clause-known c = λ first start rounds done few h d.
    let v = c.stay_behind.new.self in
    let one = c.stay_behind.ensures in (
      one.asked.0 ∙ h.0,
      one.asked.1 ∙ h.1,
      subst (λ (n : ℕ). HasSought first.hart first.place n v.found v.last start rounds (done + 1)) (sym one.stays.0)
          (subst (λ (x : Option (ℕ × ℕ)). HasSought first.hart first.place c.done_by-after.result x v.last start rounds (done + 1)) (sym one.stays.1)
          (not_here first.hart first.place c.args.self.now.before c.done_by-after.result c.args.self.now.found c.args.self.now.last v.last start c.args.machine.now rounds done (sym c.if-is_some.ensures) few
          (omega (arith, c.if-self-after.false, h.1))
          (subst (λ (n : ℕ). (x : Hart) → slice_get c.args.machine.now.harts n ≡ Some x → c.done_by-after.result ≡ x.done) h.0 c.done_by-after.ensures) one.last d h.2)),
    )
