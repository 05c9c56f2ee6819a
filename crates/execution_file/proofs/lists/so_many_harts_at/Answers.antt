use Rattle.std.proofs.Common.{◌+◌, map, arith, refl}
use Rattle.std.proofs.lemmas.Result.{err_from_is_err_and}
use Rattle.execution_file.specs.Grammar.{hart_lines}
use Rattle.execution_file.specs.Formats.{taken_each}
use Rattle.execution_file.specs.Views.{hart_view}
use Rattle.execution_file.proofs.Loops.{goes_on, ends, is_done}
use Rattle.execution_file.proofs.lists.so_many_harts_at.Goals as goal

pub returns-in_err-part : goal.returns-in_err-part
returns-in_err-part c =
    let p = err_from_is_err_and c.from_residual.result c.from_residual.ensures.1 in
    rw (p.1, p.2) (ends hart_lines c.in_err-part.field-0.0 (map hart_view c.loop-index.harts.items) c.args.count c.loop-index.index c.loop-index.index c.loop-index.rest.now (taken_each c.args.count 0 hart_lines c.args.bytes.now) c.loop-index-test.true c.in_err-part.ensures c.loop-index.invariant.1)

pub loop-index-preserved : goal.loop-index-preserved
loop-index-preserved c =
    (omega (arith, c.loop-index-test.true), rw c.in_ok-push.ensures.items (goes_on hart_lines hart_view c.loop-index.harts.items c.args.count c.loop-index.index c.loop-index.index (c.loop-index.index + 1) c.loop-index.rest.now c.in_ok-part.part c.in_ok-part.after.now (taken_each c.args.count 0 hart_lines c.args.bytes.now) c.loop-index-test.true refl c.in_ok-part.ensures c.loop-index.invariant.1))

pub returns : goal.returns
returns c = is_done hart_lines (map hart_view c.loop-index.harts.items) c.args.count c.loop-index.index c.loop-index.index c.loop-index.rest.now (taken_each c.args.count 0 hart_lines c.args.bytes.now) c.loop-index-test.false c.loop-index.invariant.1
