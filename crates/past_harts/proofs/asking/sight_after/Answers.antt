use Rattle.std.proofs.Common.{length, ap, sym, ◌∙◌, arith}
use Rattle.moments.specs.Sights.{sight_after}
use Rattle.round_planner.specs.Quotas.{quotas_of}
use Rattle.hart_step.specs.Words.{words_of}
use Rattle.guest_turns.proofs.Asked.{no_hart}
use Rattle.machine.specs.Machine.{Running}
use Rattle.machine.specs.Untraced.{Untraced}
use Rattle.past_harts.proofs.NextRounds.{guest_is, tied_guest}
use Rattle.past_harts.proofs.asking.sight_after.Goals as goal

pub returns-then-hart-harts-clause-sight : goal.returns-then-hart-harts-clause-sight
returns-then-hart-harts-clause-sight g c = λ m i.
    sym (no_hart m.code m.plan.budget (quotas_of m.plan) m.state c.args.hart c.args.count (omega (arith, c.if-hart-harts.true, ap length c.harts.ensures.harts, ap length i.harts)))

pub sight_in_round-requires-clause-done : goal.sight_in_round-requires-clause-done
sight_in_round-requires-clause-done g c = λ lifetimes within.
    omega (arith, c.if-rounds.false, c.rounds.ensures, c.rounds.type_inv, ap (λ (u : Untraced). u.rounds) c.into_fields-guest.ensures.machine)

pub sight_in_round-requires-clause-hart : goal.sight_in_round-requires-clause-hart
sight_in_round-requires-clause-hart g c = λ lifetimes within.
    omega (arith, c.if-hart-harts.false, ap length c.harts.ensures.harts, ap (λ (u : Untraced). length u.harts) c.into_fields-guest.ensures.machine)

pub sight_in_round-requires-clause-run : goal.sight_in_round-requires-clause-run
sight_in_round-requires-clause-run g c = λ lifetimes within.
    let p = c.into_fields-guest.result in
    (c.requires.run.0.state.trace, tied_guest c.requires.run.0 p.guest p.plan c.args.machine.events p.rounds c.args.machine c.into_fields-guest.ensures.machine c.requires.run.1)

pub returns-clause-sight : goal.returns-clause-sight
returns-clause-sight g c = λ m is.
    let p = c.into_fields-guest.result in
    c.in_ok-sight_in_round.ensures m.state.trace (tied_guest m p.guest p.plan c.args.machine.events p.rounds c.args.machine c.into_fields-guest.ensures.machine is)
    ∙ ap (λ (x : Running). sight_after (words_of x.code) x.plan.budget (quotas_of x.plan) x.state c.args.hart c.args.count) (guest_is m p.guest p.plan c.args.machine.events p.rounds c.args.machine c.into_fields-guest.ensures.machine is)
