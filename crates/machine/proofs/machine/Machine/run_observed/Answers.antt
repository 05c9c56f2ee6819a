use Rattle.std.proofs.Common.{◌≡◌, List, refl, ap, ◌∙◌, subst}
use Rattle.round_schedule.specs.declared.event.Event.{Event}
use Rattle.trace.specs.Traced.{Traced}
use Rattle.machine.specs.Answers.{AnswersRun}
use Rattle.machine.specs.Machine.{Running, after_rounds}
use Rattle.machine.specs.Untraced.{AreLast, Untraced, traced}
use Rattle.machine.proofs.Answered.{answers_weaker}
use Rattle.machine.proofs.TracedMachine.{all_last, traced_run}
use Rattle.machine.proofs.machine.Machine.run_observed.Goals as goal

pub run_keeping-requires-clause-kept : goal.run_keeping-requires-clause-kept
run_keeping-requires-clause-kept g c = λ lifetimes within. (c.self.inside.trace.events, refl)

pub run_keeping-requires-clause-sound : goal.run_keeping-requires-clause-sound
run_keeping-requires-clause-sound g c = λ lifetimes within n es few kept.
    let i = c.self.inside in
    c.check_to_go_on.ensures n es few (subst (λ (fs : List Event). AreLast i.bare fs) kept (all_last i.bare i.trace c.self.invariant))

pub invariant_of-self : goal.invariant_of-self
invariant_of-self g c =
    let i = c.self.inside in
    let o = c.run_keeping.new in
    let some = c.run_keeping.ensures.some in
    (traced_run some.0 i.bare o.self i.trace o.keeper c.self.invariant some.1 c.run_keeping.ensures.opening).holds

pub returns : goal.returns
returns g c =
    let i = c.self.inside in
    let o = c.run_keeping.new in
    subst (λ (m : Running). AnswersRun c.args.rounds c.args.workers m.state.rounds o.self.rounds (λ k. traced o.self o.keeper ≡ after_rounds k m) (traced o.self o.keeper ≡ m) c.run_keeping.result) c.self.view_is
    (answers_weaker
    (λ k x. (traced_run k i.bare o.self i.trace o.keeper c.self.invariant x c.run_keeping.ensures.opening).is)
    (λ x. ap (λ (u : Untraced). traced u o.keeper) x.0 ∙ ap (λ (t : Traced). traced i.bare t) x.1)
    c.run_keeping.ensures.answers)
