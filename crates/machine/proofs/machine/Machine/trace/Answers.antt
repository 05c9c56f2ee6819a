use Rattle.std.proofs.Common.{ap, length, refl, slice_index, subst, ◌∙◌}
use Rattle.trace.proofs.Openings.{opening_is}
use Rattle.machine.specs.Machine.{Running}
use Rattle.machine.specs.Untraced.{traced}
use Rattle.machine.proofs.TracedRun.{round_trace}
use Rattle.round_schedule.specs.RoundTrace.{IsRoundTrace}
use Rattle.trace.specs.Traced.{opening_at}
use Rattle.machine.proofs.machine.Machine.trace.Goals as goal

pub returns-clause-opening : goal.returns-clause-opening
returns-clause-opening c = λ x.
    opening_is c.self.inside.trace.opening (length c.self.inside.bare.bytes) c.self.invariant.beyond x
    ∙ ap (λ (m : Running). slice_index m.opening x) c.self.view_is

pub returns-clause-rounds : goal.returns-clause-rounds
returns-clause-rounds c =
    let i = c.self.inside in
    subst (λ (m : Running). IsRoundTrace i.trace.events (opening_at i.trace.opening) m.plan.budget) c.self.view_is
    (round_trace (traced i.bare i.trace) i.trace c.self.invariant.of_run refl (opening_is i.trace.opening (length i.bare.bytes) c.self.invariant.beyond))
