use Rattle.std.proofs.Common.{List, ◌++◌, refl, sym, ap, ◌∙◌, append_assoc, subst}
use Rattle.round_schedule.specs.declared.event.Event.{Event}
use Rattle.trace.specs.Traced.{Traced}
use Rattle.machine.specs.Machine.{after_rounds}
use Rattle.machine.specs.Untraced.{AreLast}
use Rattle.machine.proofs.Answered.{answers_weaker}
use Rattle.past_harts.proofs.noting.run_noting.Goals as goal

pub run_keeping-requires-clause-kept : goal.run_keeping-requires-clause-kept
run_keeping-requires-clause-kept g c = λ lifetimes within. (c.args.trace.now.events, refl)

pub run_keeping-requires-clause-sound : goal.run_keeping-requires-clause-sound
run_keeping-requires-clause-sound g c = λ lifetimes within n es few kept. c.check_to_go_on.ensures n es few (subst (λ (fs : List Event). AreLast c.args.machine.now fs) kept c.requires)

pub returns-clause-answers : goal.returns-clause-answers
returns-clause-answers g c = answers_weaker
    (λ k x. (x.run, λ m is. x.events m c.args.trace.now.events is refl))
    (λ x. (x.0, ap (λ (t : Traced). t.events) x.1))
    c.run_keeping.ensures.answers

pub returns-clause-last : goal.returns-clause-last
returns-clause-last g c =
    let some = c.run_keeping.ensures.some in
    let last = c.requires in
    let all = some.1.events last.0 c.args.trace.now.events last.1 refl in (
      after_rounds some.0 last.0,
      some.1.run last.0 last.1,
      (last.2.0, all.1 ∙ ap (λ (es : List Event). es ++ all.0) last.2.1 ∙ append_assoc last.2.0 c.args.trace.now.events all.0 ∙ ap (λ (es : List Event). last.2.0 ++ es) (sym all.2)),
    )
