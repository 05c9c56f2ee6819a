use Rattle.std.proofs.Common.{All, ap, arith, length, subst, sym, ◌∙◌}
use Rattle.trace.specs.Traced.{HasForm}
use Rattle.execution.proofs.Forming.{executes_even}
use Rattle.execution_checker.specs.Allowed.{Follows}
use Rattle.execution_checker.proofs.Followed.{at_none, followed}
use Rattle.execution_checker.proofs.Formed.{executes_formed}
use Rattle.execution_moments.proofs.check.check_moments.Goals as goal

pub judge-requires-clause-formed : goal.judge-requires-clause-formed
judge-requires-clause-formed c =
    let p = c.args.execution.now in
    let q = c.follow.new.execution.standing in
    let f : Follows p.memory c.args.script.now p.standing q = at_none c.in_ok-broken.broken _ _ c.in_default.is c.in_ok-broken.ensures.followed in
    let none : All HasForm p.standing.events = subst (All HasForm) (sym c.requires.no_events) (λ k d l. absurd (omega (arith, l))) in
    executes_formed p.memory p.standing q (omega (arith, c.is_small.ensures)) (followed p.memory c.args.script.now p.standing q f) none

pub judge-requires-clause-along : goal.judge-requires-clause-along
judge-requires-clause-along c =
    let p = c.args.execution.now in
    let q = c.follow.new.execution.standing in
    let f : Follows p.memory c.args.script.now p.standing q = at_none c.in_ok-broken.broken _ _ c.in_default.is c.in_ok-broken.ensures.followed in
    executes_even p.memory p.standing q (followed p.memory c.args.script.now p.standing q f) (ap length c.requires.no_instructions ∙ sym (ap length c.requires.no_events))
