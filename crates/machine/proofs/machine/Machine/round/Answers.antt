use Rattle.std.proofs.Common.{◌≡◌, ◌+◌, ◌++◌, List, refl, sym, ap, ◌∙◌, subst, arith}
use Rattle.round_schedule.specs.declared.event.Event.{Event}
use Rattle.round_schedule.specs.Schedule.{hart_rounds}
use Rattle.round_planner.specs.Quotas.{quotas_of}
use Rattle.hart_step.specs.Words.{words_of}
use Rattle.trace.specs.Traced.{IsTrace}
use Rattle.machine.specs.Machine.{Running, after_round}
use Rattle.guest_rounds.specs.Rounds.{count_waiting}
use Rattle.machine.specs.Untraced.{HasRun, HoldsTogether, Untraced, next_events, traced}
use Rattle.machine.proofs.TracedMachine.{all_last, not_run, on_err, traced_run}
use Rattle.machine.proofs.UntracedRounds.{one_round}
use Rattle.machine.proofs.machine.Machine.round.Goals as goal

pub end_round-requires-clause-sound : goal.end_round-requires-clause-sound
end_round-requires-clause-sound g c = λ lifetimes within.
    let i = c.self.inside in
    let may = (c.check_to_go_on.ensures 1 i.trace.events (omega (arith, c.if-rounds.false, c.rounds.ensures, c.rounds.type_inv)) (all_last i.bare i.trace c.self.invariant)).0 in
    (i.trace.events, refl, subst (λ (u : Untraced). IsTrace (i.trace.events ++ next_events u)) (sym c.do_parallel.ensures.stays) may)

pub invariant_of-self : goal.invariant_of-self
invariant_of-self g c =
    let i = c.self.inside in
    subst (λ (u : Untraced). HoldsTogether u i.trace) (sym c.do_parallel.ensures.stays) c.self.invariant

pub invariant_of-self-in_err-end_round : goal.invariant_of-self-in_err-end_round
invariant_of-self-in_err-end_round g c =
    let i = c.self.inside in
    let o = c.end_round.new in
    let none = c.in_err-end_round.ensures in
    (not_run i.bare o.self i.trace o.keeper c.self.invariant (none.err ∙ c.do_parallel.ensures.stays) (none.untold i.trace.events refl) none.opening).0

pub invariant_of-self-2 : goal.invariant_of-self-2
invariant_of-self-2 g c =
    let i = c.self.inside in
    let o = c.end_round.new in
    let run = subst (λ (u : Untraced). HasRun 1 u o.self (λ (es : List Event). i.trace.events ≡ es) (λ (es : List Event). o.keeper.events ≡ es)) c.do_parallel.ensures.stays c.in_ok-end_round.ensures.run in
    (traced_run 1 i.bare o.self i.trace o.keeper c.self.invariant run c.in_ok-end_round.ensures.opening).holds

pub returns-clause-ok : goal.returns-clause-ok
returns-clause-ok g c =
    let i = c.self.inside in
    let o = c.end_round.new in
    let run = subst (λ (u : Untraced). HasRun 1 u o.self (λ (es : List Event). i.trace.events ≡ es) (λ (es : List Event). o.keeper.events ≡ es)) c.do_parallel.ensures.stays c.in_ok-end_round.ensures.run in
    (traced_run 1 i.bare o.self i.trace o.keeper c.self.invariant run c.in_ok-end_round.ensures.opening).is
    ∙ sym (one_round (traced i.bare i.trace)) ∙ ap after_round c.self.view_is

pub returns-clause-one_more : goal.returns-clause-one_more
returns-clause-one_more g c =
    c.in_ok-end_round.ensures.run.rounds ∙ ap (λ (u : Untraced). u.rounds + 1) c.do_parallel.ensures.stays ∙ ap (λ (m : Running). m.state.rounds + 1) c.self.view_is

pub returns-clause-waited : goal.returns-clause-waited
returns-clause-waited g c =
    c.in_ok-end_round.ensures.waited
    ∙ ap (λ (u : Untraced). count_waiting (hart_rounds (words_of u.code) u.bytes (quotas_of u.plan u.rounds) u.harts)) c.do_parallel.ensures.stays
    ∙ ap (λ (m : Running). count_waiting (hart_rounds (words_of m.code) m.state.bytes (quotas_of m.plan m.state.rounds) m.state.harts)) c.self.view_is

pub returns-in_err-ends-clause-err : goal.returns-in_err-ends-clause-err
returns-in_err-ends-clause-err g c =
    on_err c.from_residual.result _ (ap (λ (u : Untraced). traced u c.self.inside.trace) c.do_parallel.ensures.stays ∙ c.self.view_is)

pub returns-in_err-end_round-clause-err : goal.returns-in_err-end_round-clause-err
returns-in_err-end_round-clause-err g c =
    let i = c.self.inside in
    let o = c.end_round.new in
    let none = c.in_err-end_round.ensures in
    on_err c.from_residual-in_err-end_round.result _
    ((not_run i.bare o.self i.trace o.keeper c.self.invariant (none.err ∙ c.do_parallel.ensures.stays) (none.untold i.trace.events refl) none.opening).1 ∙ c.self.view_is)
