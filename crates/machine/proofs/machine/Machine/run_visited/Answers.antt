use Rattle.std.proofs.Common.{◌≡◌, ◌<◌, ◌+◌, ◌^◌, List, refl, ap, ◌∙◌, subst, arith}
use Rattle.std.proofs.lemmas.Result.{IfOk-weaker, on_err_weaker}
use Rattle.round_schedule.specs.declared.event.Event.{Event}
use Rattle.machine.specs.Machine.{Running, after_rounds}
use Rattle.machine.specs.Untraced.{HasRun, IsUntraced}
use Rattle.machine.specs.Walks.{IsCutOff}
use Rattle.machine.proofs.TracedMachine.{all_last, traced_run}
use Rattle.machine.proofs.Walked.{some_run}
use Rattle.machine.proofs.machine.Machine.run_visited.Goals as goal

pub run_within-requires-clause-rounds : goal.run_within-requires-clause-rounds
run_within-requires-clause-rounds g c = λ lifetimes within. omega (arith, c.requires.rounds, ap (λ (m : Running). m.state.rounds) c.self.view_is)

pub run_within-requires-clause-sound : goal.run_within-requires-clause-sound
run_within-requires-clause-sound g c = λ lifetimes within.
    let i = c.self.inside in
    let few : i.bare.rounds + c.args.rounds < 2 ^ 32 = omega (arith, c.requires.rounds, ap (λ (m : Running). m.state.rounds) c.self.view_is) in
    (i.trace.events, refl, c.check_to_go_on.ensures c.args.rounds i.trace.events few (all_last i.bare i.trace c.self.invariant))

pub run_within-requires-clause-known : goal.run_within-requires-clause-known
run_within-requires-clause-known g c = λ lifetimes within.
    c.requires.known c.self.inside.bare (subst (λ (m : Running). IsUntraced m c.self.inside.bare) c.self.view_is c.self.invariant.run)

pub invariant_of-self : goal.invariant_of-self
invariant_of-self g c =
    let i = c.self.inside in
    let o = c.run_within.new in
    let some =
    some_run c.run_within.result c.args.rounds (IsCutOff g.V.Visitor.may_fail c.args.rounds)
    (λ k. HasRun k i.bare o.self (λ (es : List Event). i.trace.events ≡ es) (λ (es : List Event). o.keeper.events ≡ es)) c.run_within.ensures.done c.run_within.ensures.cut_off in
    (traced_run some.0 i.bare o.self i.trace o.keeper c.self.invariant some.1 c.run_within.ensures.opening).holds

pub returns-clause-done : goal.returns-clause-done
returns-clause-done g c =
    let i = c.self.inside in
    let o = c.run_within.new in
    IfOk-weaker c.run_within.result _ _ (λ done x. (traced_run c.args.rounds i.bare o.self i.trace o.keeper c.self.invariant x c.run_within.ensures.opening).is ∙ ap (after_rounds c.args.rounds) c.self.view_is) c.run_within.ensures.done

pub returns-clause-known : goal.returns-clause-known
returns-clause-known g c =
    let bare = c.self.inside.bare in
    IfOk-weaker c.run_within.result _ _ (λ done x. (bare, subst (λ (m : Running). IsUntraced m bare) c.self.view_is c.self.invariant.run, x)) c.run_within.ensures.known

pub returns-clause-cut_off : goal.returns-clause-cut_off
returns-clause-cut_off g c =
    let i = c.self.inside in
    let o = c.run_within.new in
    on_err_weaker c.run_within.result
    (λ x. (x.0, x.1, (traced_run x.0 i.bare o.self i.trace o.keeper c.self.invariant x.2 c.run_within.ensures.opening).is ∙ ap (after_rounds x.0) c.self.view_is)) c.run_within.ensures.cut_off
