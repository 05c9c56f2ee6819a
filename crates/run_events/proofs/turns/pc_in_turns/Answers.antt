use Rattle.std.proofs.Common.{arith, ◌≤◌, ◌∙◌, ap, option_map}
use Rattle.std.proofs.lemmas.Bool.Decides.{nat_tests}
use Rattle.hart_step.specs.declared.hart.Hart.{Hart}
use Rattle.run_events.proofs.TurnPcs.{along, got, got_items}
use Rattle.run_events.proofs.turns.pc_in_turns.Goals as goal

pub returns : goal.returns
returns c =
    let n = c.from-number.result in
    let there = got c.harts-harts.result.now n c.in-Some.before.now c.in-Some.ensures.lookup.3.0 c.in-Some.ensures.lookup.1 in
    let turn = got c.args.turns.now n c.in-Some-get.turn.now c.in-Some-get.ensures.lookup.3.0 c.in-Some-get.ensures.lookup.1 in
    λ m is.
    along m c.args.machine.now is c.args.event.now _ _ _ _ _ _ _ n _ _ _ _ _ _ _ _
    c.harts-harts.ensures.harts
    c.from-number.ensures
    there
    (c.requires.turns m is)
    (got_items _ c.args.turns.now n c.in-Some-get.turn.now turn)
    c.deref.ensures.value
    c.in-Some-first.ensures.value
    c.done_since-begun.ensures.count
    c.done_since-begun.ensures.fits
    c.saturating_sub-count.ensures
    c.place.ensures
    (grind (arith, nat_tests, c.if-count-begun.false))
    c.deref-2.ensures.value
    (c.pc_of.ensures ∙ ap (option_map (λ (x : Hart). x.pc)) c.hart_along.ensures)
    c.quota-quota.ensures.quota
    c.plan.ensures
    c.rounds.ensures
    c.from.ensures
    c.quota-quota.ensures.in_range.1
