use Rattle.std.proofs.Common.{◌≡◌, ◌≤◌, ◌^◌, ◌∙◌, All, ap, arith, length, subst, sym}
use Rattle.trace.specs.Traced.{HasForm}
use Rattle.execution.proofs.Forming.{executes_even}
use Rattle.execution_checker.specs.Allowed.{Follows}
use Rattle.execution_checker.proofs.Followed.{at_none, followed}
use Rattle.execution_checker.proofs.Formed.{executes_formed}
use Rattle.weak_executions.proofs.checking.allows.Goals as goal

pub meets_rvwmo-requires-clause-formed : goal.meets_rvwmo-requires-clause-formed
meets_rvwmo-requires-clause-formed c =
    let p = c.args.execution.now in
    let q = c.follow.new.execution.standing in
    let f : Follows p.memory c.args.script.now p.standing q = at_none c.in_ok-follow.field-0 _ _ c.in-None.is c.in_ok-follow.ensures in
    let none : All HasForm p.standing.events = subst (All HasForm) (sym c.requires.no_events) (λ k d l. absurd (omega (arith, l))) in
    executes_formed p.memory p.standing q (omega (arith, c.is_small.ensures)) (followed p.memory c.args.script.now p.standing q f) none

pub meets_rvwmo-requires-clause-along : goal.meets_rvwmo-requires-clause-along
meets_rvwmo-requires-clause-along c =
    let p = c.args.execution.now in
    let q = c.follow.new.execution.standing in
    let f : Follows p.memory c.args.script.now p.standing q = at_none c.in_ok-follow.field-0 _ _ c.in-None.is c.in_ok-follow.ensures in
    executes_even p.memory p.standing q (followed p.memory c.args.script.now p.standing q f) (ap length c.requires.no_instructions ∙ sym (ap length c.requires.no_events))
