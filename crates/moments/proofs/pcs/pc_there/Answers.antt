use Rattle.std.proofs.Common.{◌≡◌, arith, sym, ◌∙◌}
use Rattle.moments.proofs.PcsFound.{at_end, found, goes_on, is_stopped, starts, stops, waits}
use Rattle.moments.proofs.Walked.{running}
use Rattle.moments.proofs.pcs.pc_there.Goals as goal

pub loop-done-init : goal.loop-done-init
loop-done-init g c = (omega arith, starts _ _ _ _ _ c.requires)

pub returns-then-is_some-clause-pc : goal.returns-then-is_some-clause-pc
returns-then-is_some-clause-pc g c = is_stopped _ _ _ _ _ _ _ _ c.loop-done.invariant.1 _ c.loop-done.invariant.0 (cc (c.if-is_some.true, c.is_some.ensures))

pub returns-in-Waits-clause-pc : goal.returns-in-Waits-clause-pc
returns-in-Waits-clause-pc g c =
    waits _ _ _ _ _ _ _ _ c.loop-done.invariant.1 _ c.loop-done.invariant.0 (omega arith) (running _ (cc (c.if-is_some.false, c.is_some.ensures))) (sym c.in_ok-step_by.ensures.did.answer ∙ c.in-Waits.is)

pub returns-in-Stopped-clause-pc : goal.returns-in-Stopped-clause-pc
returns-in-Stopped-clause-pc g c =
    stops _ _ _ _ _ _ _ _ c.loop-done.invariant.1 _ _ c.loop-done.invariant.0 (omega arith) (running _ (cc (c.if-is_some.false, c.is_some.ensures))) (sym c.in_ok-step_by.ensures.did.answer ∙ c.in-Stopped.is)

pub returns-then-from-count-clause-pc : goal.returns-then-from-count-clause-pc
returns-then-from-count-clause-pc g c =
    let at = c.in_ok-step_by.ensures.did in
    found _ _ _ _ _ _ _ _ c.loop-done.invariant.1 _ _ _ (omega arith) (running _ (cc (c.if-is_some.false, c.is_some.ensures))) (sym at.answer ∙ c.in-Done.is) at.hart at.bytes _ (omega arith)

pub returns-then-from-count-clause-rest : goal.returns-then-from-count-clause-rest
returns-then-from-count-clause-rest g c =
    let at = c.in_ok-step_by.ensures.did in
    let there = goes_on _ _ _ _ _ _ _ _ c.loop-done.invariant.1 _ _ _ (omega arith) (running _ (cc (c.if-is_some.false, c.is_some.ensures))) (sym at.answer ∙ c.in-Done.is) at.hart at.bytes in
    let same : c.loop-done.done ≡ c.args.count = omega arith in
    rw (sym same) there

pub loop-done-preserved : goal.loop-done-preserved
loop-done-preserved g c =
    let at = c.in_ok-step_by.ensures.did in (
      omega arith,
      goes_on _ _ _ _ _ _ _ _ c.loop-done.invariant.1 _ _ _ (omega arith) (running _ (cc (c.if-is_some.false, c.is_some.ensures))) (sym at.answer ∙ c.in-Done.is) at.hart at.bytes,
    )

pub returns-clause-pc : goal.returns-clause-pc
returns-clause-pc g c = at_end _ _ _ _ _ _ _ _ c.loop-done.invariant.1 _ c.loop-done.invariant.0 (omega arith)
