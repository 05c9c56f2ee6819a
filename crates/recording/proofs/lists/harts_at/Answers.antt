use Rattle.std.proofs.Common.{◌+◌, map, arith}
use Rattle.std.proofs.lemmas.Result.{err_from_is_err_and}
use Rattle.recording.specs.Fields.{taken_each}
use Rattle.recording.specs.Grammar.{hart_summary}
use Rattle.recording.specs.Views.{hart_view}
use Rattle.recording.proofs.Loops.{goes_on, ends, is_done}
use Rattle.recording.proofs.lists.harts_at.Goals as goal

pub returns-in_err-hart : goal.returns-in_err-hart
returns-in_err-hart c =
    let p = err_from_is_err_and c.from_residual.result c.from_residual.ensures.1 in
    rw (p.1, p.2) (ends (λ i. hart_summary) c.in_err-hart.field-0.0 (map (hart_view) c.loop.harts.items) (c.args.count) c.loop.counter (0 + c.loop.counter) c.loop.rest.now (taken_each (c.args.count) 0 (λ i. hart_summary) c.args.bytes.now) c.loop-test.true c.in_err-hart.ensures c.loop.invariant.1)

pub loop-preserved : goal.loop-preserved
loop-preserved c =
    (omega (arith, c.loop-test.true), rw c.in_ok-push.ensures.items (goes_on (λ i. hart_summary) (hart_view) c.loop.harts.items (c.args.count) c.loop.counter (0 + c.loop.counter) (0 + (c.loop.counter + 1)) c.loop.rest.now c.in_ok-hart.hart c.in_ok-hart.after.now (taken_each (c.args.count) 0 (λ i. hart_summary) c.args.bytes.now) c.loop-test.true (omega arith) c.in_ok-hart.ensures c.loop.invariant.1))

pub returns : goal.returns
returns c = is_done (λ i. hart_summary) (map (hart_view) c.loop.harts.items) (c.args.count) c.loop.counter (0 + c.loop.counter) c.loop.rest.now (taken_each (c.args.count) 0 (λ i. hart_summary) c.args.bytes.now) c.loop-test.false c.loop.invariant.1
