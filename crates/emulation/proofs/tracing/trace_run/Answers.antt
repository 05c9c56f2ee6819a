use Rattle.std.proofs.Common.{◌≡◌, ap, ◌∙◌, arith, subst}
use Rattle.round_planner.specs.Quotas.{Planned}
use Rattle.round_schedule.specs.RoundTrace.{IsRoundTrace}
use Rattle.trace.specs.Traced.{opening_at}
use Rattle.memory_order.proofs.Meeting.{meets_rvwmo}
use Rattle.machine.specs.Machine.{Running}
use Rattle.machine.specs.Untraced.{IsUntraced}
use Rattle.emulation.proofs.tracing.trace_run.Goals as goal

-- the budget is that of the plan that the machine was opened with
pub returns-in-Ok-clause-rounds : goal.returns-in-Ok-clause-rounds
returns-in-Ok-clause-rounds g c =
    let made = c.in_ok-machine.ensures.machine in
    let t = c.into_trace.result in
    let budget = λ (r : Running). r.plan.budget in
    subst (IsRoundTrace t.events (opening_at t.opening)) (ap budget c.in-Ok.ensures.done ∙ ap budget made.2 ∙ ap (λ (p : Planned). p.budget) made.1.is_plan) c.into_trace.ensures.rounds

pub returns-in-Ok-clause-rvwmo : goal.returns-in-Ok-clause-rvwmo
returns-in-Ok-clause-rvwmo g c = λ order o. meets_rvwmo _ order o (opening_at c.into_trace.result.opening) c.args.settings.now.budget (returns-in-Ok-clause-rounds g c)

pub run_visited-requires-clause-rounds : goal.run_visited-requires-clause-rounds
run_visited-requires-clause-rounds g c = λ lifetimes within.
    let opened : c.in_ok-machine.machine.state.rounds ≡ 0 = ap (λ (m : Running). m.state.rounds) c.in_ok-machine.ensures.machine.2 in
    omega (arith, opened)

pub returns-in-Ok-clause-known : goal.returns-in-Ok-clause-known
returns-in-Ok-clause-known g c =
    let made = c.in_ok-machine.ensures.machine in
    let k = c.in-Ok.ensures.known in
    record { plan = made.0; planned = made.1; start = k.0; opens = subst (λ (m : Running). IsUntraced m k.0) made.2 k.1; seen = k.2 }
