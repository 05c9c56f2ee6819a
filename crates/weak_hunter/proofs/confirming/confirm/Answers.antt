use Rattle.std.proofs.Common.{All, arith, subst}
use Rattle.std.proofs.lemmas.List.{take_all}
use Rattle.plan_hunt.specs.declared.row.Row.{Row}
use Rattle.weak_hunter.specs.WeakHunts.{IsAllowedEnding}
use Rattle.weak_hunter.proofs.Tabled.{on_true, one_more}
use Rattle.weak_hunter.proofs.confirming.confirm.Goals as goal

pub loop-row-preserved : goal.loop-row-preserved
loop-row-preserved c =
    let o = c.args.guest.now.opening in
    one_more (λ (r : Row). IsAllowedEnding o.image.now o.input.now o.harts.now r.ending) c.args.rows.now c.loop-row.row-index c.row-item.result (omega (arith, c.loop-row-test.true)) c.row-item.is
    c.loop-row.invariant (on_true c.in_ok-is_allowed.field-0 (IsAllowedEnding o.image.now o.input.now o.harts.now c.row-item.result.ending) c.in_ok-is_allowed.ensures c.if-not-branch.false)

pub returns-clause-allowed : goal.returns-clause-allowed
returns-clause-allowed c =
    let o = c.args.guest.now.opening in
    subst (All (λ (r : Row). IsAllowedEnding o.image.now o.input.now o.harts.now r.ending)) (take_all c.loop-row.row-index c.args.rows.now (omega (arith, c.loop-row-test.false))) c.loop-row.invariant
