use Rattle.std.proofs.Common.{◌+◌, map, arith}
use Rattle.std.proofs.lemmas.Result.{err_from_is_err_and}
use Rattle.std.specs.Int.{w64}
use Rattle.recording.specs.Fields.{taken_each, each}
use Rattle.recording.specs.Grammar.{any}
use Rattle.recording.proofs.Loops.{goes_on, ends, is_done}
use Rattle.recording.proofs.lists.registers_at.Goals as goal

pub returns-in_err-registers : goal.returns-in_err-registers
returns-in_err-registers c =
    let p = err_from_is_err_and c.from_residual.result c.from_residual.ensures.1 in
    rw (p.1, p.2) (ends (λ i. each 31 1 (λ x. any w64)) c.in_err-registers.field-0.0 (map (λ r. r.items) c.loop.harts.items) (c.args.count) c.loop.counter (0 + c.loop.counter) c.loop.rest.now (taken_each (c.args.count) 0 (λ i. each 31 1 (λ x. any w64)) c.args.bytes.now) c.loop-test.true c.in_err-registers.ensures c.loop.invariant.1)

pub loop-preserved : goal.loop-preserved
loop-preserved c =
    (omega (arith, c.loop-test.true), rw c.in_ok-push.ensures.items (goes_on (λ i. each 31 1 (λ x. any w64)) (λ r. r.items) c.loop.harts.items (c.args.count) c.loop.counter (0 + c.loop.counter) (0 + (c.loop.counter + 1)) c.loop.rest.now c.in_ok-registers.registers c.in_ok-registers.after.now (taken_each (c.args.count) 0 (λ i. each 31 1 (λ x. any w64)) c.args.bytes.now) c.loop-test.true (omega arith) c.in_ok-registers.ensures c.loop.invariant.1))

pub returns : goal.returns
returns c = is_done (λ i. each 31 1 (λ x. any w64)) (map (λ r. r.items) c.loop.harts.items) (c.args.count) c.loop.counter (0 + c.loop.counter) c.loop.rest.now (taken_each (c.args.count) 0 (λ i. each 31 1 (λ x. any w64)) c.args.bytes.now) c.loop-test.false c.loop.invariant.1
