use Rattle.std.proofs.Common.{◌≡◌, ◌≤◌, ◌^◌, ◌∙◌, All, List, ap, arith, length, subst, sym}
use Rattle.std.proofs.lemmas.Result.{IfOk-weaker}
use Rattle.round_schedule.specs.declared.event.Event.{Event}
use Rattle.trace.specs.Traced.{HasForm, opening_at}
use Rattle.execution.proofs.Forming.{executes_even}
use Rattle.execution_checker.specs.Allowed.{Follows}
use Rattle.execution_checker.proofs.Followed.{at_none, followed, judged}
use Rattle.execution_checker.proofs.Formed.{executes_formed}
use Rattle.execution_checker.proofs.check.check_execution.Goals as goal

pub judge-requires-clause-formed : goal.judge-requires-clause-formed
judge-requires-clause-formed c =
    let p = c.args.execution.now in
    let q = c.follow.new.execution.standing in
    let f : Follows p.memory c.args.script.now p.standing q = at_none c.in_ok-index.field-0 _ _ c.in-None.is c.in_ok-index.ensures in
    let none : All HasForm p.standing.events = subst (All HasForm) (sym c.requires.no_events) (λ k d l. absurd (omega (arith, l))) in
    executes_formed p.memory p.standing q (omega (arith, c.is_small.ensures)) (followed p.memory c.args.script.now p.standing q f) none

pub judge-requires-clause-along : goal.judge-requires-clause-along
judge-requires-clause-along c =
    let p = c.args.execution.now in
    let q = c.follow.new.execution.standing in
    let f : Follows p.memory c.args.script.now p.standing q = at_none c.in_ok-index.field-0 _ _ c.in-None.is c.in_ok-index.ensures in
    executes_even p.memory p.standing q (followed p.memory c.args.script.now p.standing q f) (ap length c.requires.no_instructions ∙ sym (ap length c.requires.no_events))

pub returns-in-None : goal.returns-in-None
returns-in-None c =
    let p = c.args.execution.now in
    let q = c.follow.new.execution.standing in
    let f : Follows p.memory c.args.script.now p.standing q = at_none c.in_ok-index.field-0 _ _ c.in-None.is c.in_ok-index.ensures in
    IfOk-weaker c.judge.result _ _ (λ v j. judged v p.memory (opening_at c.args.opening.now.opening) c.args.script.now c.args.order.now.0.items p.standing q f j) c.judge.ensures
