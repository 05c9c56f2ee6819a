use Rattle.round_planner.specs.Quotas.{quotas_of}
use Rattle.guest_turns.proofs.Asked.{hart_in_none, hart_in_some}
use Rattle.past_harts.proofs.asking.hart_after.Goals as goal

pub returns-in-Some-clause-hart : goal.returns-in-Some-clause-hart
returns-in-Some-clause-hart g c = λ m i.
    hart_in_some m.code m.plan.budget (quotas_of m.plan) m.state c.args.hart c.args.count c.in_ok-sight.field-0 c.in-Some.sight c.hart.result
    (c.in_ok-sight.ensures.sight m i) c.in-Some.is c.hart.ensures

pub returns-in-None-clause-hart : goal.returns-in-None-clause-hart
returns-in-None-clause-hart g c = λ m i.
    hart_in_none m.code m.plan.budget (quotas_of m.plan) m.state c.args.hart c.args.count c.in_ok-sight.field-0 (c.in_ok-sight.ensures.sight m i) c.in-None.is
