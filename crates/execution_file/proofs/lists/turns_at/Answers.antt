use Rattle.std.proofs.Common.{length, map, arith}
use Rattle.std.proofs.lemmas.Result.{err_from_is_err_and}
use Rattle.execution_file.specs.Grammar.{hart_turn}
use Rattle.execution_file.specs.Formats.{taken_list}
use Rattle.execution_file.specs.Views.{turn_view}
use Rattle.execution_file.proofs.WordLoops.{list_breaks, list_cut, list_ends, list_fails, list_goes, list_spent}
use Rattle.execution_file.proofs.lists.turns_at.Goals as goal

pub returns-in_default : goal.returns-in_default
returns-in_default c = rw c.refused.ensures (list_cut hart_turn (map turn_view c.loop.turns.items) (length c.args.bytes.now) c.loop.counter c.loop.rest.now (taken_list (length c.args.bytes.now) hart_turn c.args.bytes.now) c.loop-test.true c.in_default.ensures.cases c.loop.invariant.1)

pub returns-then-first-eq10 : goal.returns-then-first-eq10
returns-then-first-eq10 c = list_ends hart_turn (map turn_view c.loop.turns.items) (length c.args.bytes.now) c.loop.counter c.in-Some.first.now c.loop.rest.now c.in-Some.after.now (taken_list (length c.args.bytes.now) hart_turn c.args.bytes.now) c.loop-test.true c.in-Some.ensures.cases.0 c.if-first-eq10.true c.loop.invariant.1

pub returns-then-first-ne32 : goal.returns-then-first-ne32
returns-then-first-ne32 c = rw c.refused-then-first-ne32.ensures (list_breaks hart_turn (map turn_view c.loop.turns.items) (length c.args.bytes.now) c.loop.counter c.in-Some.first.now c.loop.rest.now c.in-Some.after.now (taken_list (length c.args.bytes.now) hart_turn c.args.bytes.now) c.loop-test.true c.in-Some.ensures.cases.0 (λ e. omega (arith, e, c.if-first-ne32.true)) (λ e. omega (arith, e, c.if-first-eq10.false)) c.loop.invariant.1)

pub returns-in_err-turn : goal.returns-in_err-turn
returns-in_err-turn c =
    let p = err_from_is_err_and c.from_residual.result c.from_residual.ensures.1 in
    rw (p.1, p.2) (list_fails hart_turn c.in_err-turn.field-0.0 (map turn_view c.loop.turns.items) (length c.args.bytes.now) c.loop.counter c.in-Some.first.now c.loop.rest.now c.in-Some.after.now (taken_list (length c.args.bytes.now) hart_turn c.args.bytes.now) c.loop-test.true c.in-Some.ensures.cases.0 c.if-first-ne32.false c.in_err-turn.ensures c.loop.invariant.1)

pub loop-preserved : goal.loop-preserved
loop-preserved c =
    (omega (arith, c.loop-test.true), rw c.in_ok-push.ensures.items (list_goes hart_turn turn_view c.loop.turns.items (length c.args.bytes.now) c.loop.counter c.in-Some.first.now c.loop.rest.now c.in-Some.after.now c.in_ok-turn.turn c.in_ok-turn.after.now (taken_list (length c.args.bytes.now) hart_turn c.args.bytes.now) c.loop-test.true c.in-Some.ensures.cases.0 c.if-first-ne32.false c.in_ok-turn.ensures c.loop.invariant.1))

pub returns : goal.returns
returns c = rw c.refused-end.ensures (list_spent hart_turn (map turn_view c.loop.turns.items) (length c.args.bytes.now) c.loop.counter c.loop.rest.now (taken_list (length c.args.bytes.now) hart_turn c.args.bytes.now) c.loop-test.false c.loop.invariant.1)
