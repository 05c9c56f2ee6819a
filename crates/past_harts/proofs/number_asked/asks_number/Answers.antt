use Rattle.std.proofs.Common.{ap, ◌∙◌, arith}
use Rattle.round_planner.specs.Quotas.{quotas_of}
use Rattle.hart_step.specs.Words.{words_of}
use Rattle.serial_phase.specs.Asking.{asks_in_round}
use Rattle.serial_phase.specs.Forgetting.{asks_number}
use Rattle.machine.specs.Machine.{Running}
use Rattle.machine.specs.Untraced.{Untraced}
use Rattle.past_harts.proofs.NextRounds.{guest_is, tied_guest}
use Rattle.past_harts.proofs.number_asked.asks_number.Goals as goal

pub returns-clause-asks : goal.returns-clause-asks
returns-clause-asks g c = λ m is.
    let p = c.into_fields-guest.result in
    c.in_ok-asks_in_round.ensures m.state.trace (tied_guest m p.guest p.plan c.args.machine.events p.rounds c.args.machine c.into_fields-guest.ensures.machine is)
    ∙ ap (λ (x : Running). asks_in_round (words_of x.code) (asks_number x.code) x.plan.budget (quotas_of x.plan) x.state) (guest_is m p.guest p.plan c.args.machine.events p.rounds c.args.machine c.into_fields-guest.ensures.machine is)

pub asks_in_round-requires-clause-done : goal.asks_in_round-requires-clause-done
asks_in_round-requires-clause-done g c = λ lifetimes within.
    omega (arith, c.if-rounds.false, c.rounds.ensures, c.rounds.type_inv, ap (λ (u : Untraced). u.rounds) c.into_fields-guest.ensures.machine)
