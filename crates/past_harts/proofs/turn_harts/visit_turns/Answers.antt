use Rattle.std.proofs.Common.{[], ap, subst, arith}
use Rattle.round_planner.specs.Quotas.{quotas_of}
use Rattle.hart_step.specs.Words.{words_of}
use Rattle.guest_turns.specs.TurnHarts.{turns_in_round}
use Rattle.machine.specs.Machine.{Running}
use Rattle.machine.specs.Untraced.{Untraced}
use Rattle.past_harts.proofs.NextRounds.{guest_is, tied_guest}
use Rattle.past_harts.proofs.turn_harts.visit_turns.Goals as goal

pub returns-clause-turns : goal.returns-clause-turns
returns-clause-turns g c = λ m is.
    let p = c.into_fields-guest.result in
    λ first k.
    subst (λ hss. g.V.TurnVisitor.knows first c.visit_turns.new.visitor hss [])
    (ap (λ (x : Running). turns_in_round (words_of x.code) x.plan.budget (quotas_of x.plan) x.state) (guest_is m p.guest p.plan c.args.machine.events p.rounds c.args.machine c.into_fields-guest.ensures.machine is))
    (c.in_ok-visit_turns.ensures m.state.trace (tied_guest m p.guest p.plan c.args.machine.events p.rounds c.args.machine c.into_fields-guest.ensures.machine is) first k)

pub visit_turns-requires-clause-done : goal.visit_turns-requires-clause-done
visit_turns-requires-clause-done g c = λ lifetimes within.
    omega (arith, c.if-rounds.false, c.rounds.ensures, c.rounds.type_inv, ap (λ (u : Untraced). u.rounds) c.into_fields-guest.ensures.machine)
