use Rattle.std.proofs.Common.{◌≡◌, ◌+◌, ◌++◌, [], ◌∷◌, cond, arith, sym, ◌∙◌}
use Rattle.std.proofs.lemmas.Grind.{common_steps}
use Rattle.moments.proofs.HitsFound.{at_end, goes_on, is_stopped, stops, waits}
use Rattle.moments.proofs.Passed.{passed_on}
use Rattle.moments.proofs.Walked.{running}
use Rattle.moments.proofs.hits.walk.Goals.{then-told+in_ok-push, else-told}
use Rattle.moments.proofs.hits.walk.Goals as goal

pub returns-then-is_some : goal.returns-then-is_some
returns-then-is_some g c = is_stopped _ _ _ _ _ _ _ _ _ _ c.loop-done.invariant (cc (c.if-is_some.true, c.is_some.ensures))

pub pass_over-done-requires-clause-running : goal.pass_over-done-requires-clause-running
pass_over-done-requires-clause-running g c = running _ (cc (c.if-is_some.false, c.is_some.ensures))

pub returns-then-done-quota : goal.returns-then-done-quota
returns-then-done-quota g c =
    let did = c.pass_over-done.ensures in
    at_end _ _ _ _ _ _ _ _ _ _ (passed_on _ _ _ _ _ _ _ _ _ _ _ _ c.loop-done.invariant (omega (arith, did.few)) did.passes) (omega arith)

pub returns-in-Waits : goal.returns-in-Waits
returns-in-Waits g c =
    let did = c.pass_over-done.ensures in
    waits _ _ _ _ _ _ _ _ _ _ (passed_on _ _ _ _ _ _ _ _ _ _ _ _ c.loop-done.invariant (omega (arith, did.few)) did.passes) _ (omega arith) did.running (sym c.in_ok-step_by.ensures.did.answer ∙ c.in-Waits.is) c.in_ok-step_by.ensures.did.hart

pub returns-in-Stopped : goal.returns-in-Stopped
returns-in-Stopped g c =
    let did = c.pass_over-done.ensures in
    stops _ _ _ _ _ _ _ _ _ _ (passed_on _ _ _ _ _ _ _ _ _ _ _ _ c.loop-done.invariant (omega (arith, did.few)) did.passes) _ _ (omega arith) did.running (sym c.in_ok-step_by.ensures.did.answer ∙ c.in-Stopped.is) c.in_ok-step_by.ensures.did.hart

pub loop-done-preserved : goal.loop-done-preserved
loop-done-preserved g c =
    let did = c.pass_over-done.ensures in
    let at = c.in_ok-step_by.ensures.did in
    let noted : c.if-told.counts.items ≡ cond c.tells-told.result (c.loop-done.counts.items ++ (c.loop-done.done + c.pass_over-done.result) ∷ []) c.loop-done.counts.items =
    elim c.if-told.branch [
      | then-told+in_ok-push w ↦ rw w.if-told.true (grind (arith, common_steps))
      | else-told w ↦ rw w.if-told.false (grind (arith, common_steps))
    ] in
    goes_on _ _ _ _ _ _ _ _ _ _ (passed_on _ _ _ _ _ _ _ _ _ _ _ _ c.loop-done.invariant (omega (arith, did.few)) did.passes) _ _ _ _ _ (omega arith) did.running (sym at.answer ∙ c.in-Done.is) (sym c.tells-told.ensures) noted at.hart at.bytes

pub returns : goal.returns
returns g c = at_end _ _ _ _ _ _ _ _ _ _ c.loop-done.invariant (omega arith)
