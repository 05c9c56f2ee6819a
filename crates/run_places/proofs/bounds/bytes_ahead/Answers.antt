use Rattle.std.proofs.Common.{◌<◌, length, arith}
use Rattle.run_places.proofs.KnownBytes.{bytes_before, pair_found}
use Rattle.run_places.proofs.bounds.bytes_ahead.Goals as goal

pub loop-index-preserved : goal.loop-index-preserved
loop-index-preserved c =
    let i = c.loop-index.index in
    let small = c.loop-index-test.true in
    let many = c.if-a-b.false in
    let bound : i < length c.args.b.now = omega (arith, small, many) in
    pair_found c.args.a.now c.args.b.now i _ _ small bound (c.byte_ahead.ensures c.if-not-byte_ahead.false) c.loop-index.invariant

pub returns : goal.returns
returns c = λ yes.
    let many = c.if-a-b.false in
    bytes_before c.args.a.now c.args.b.now (omega (arith, many))
    (λ k d e l. c.loop-index.invariant k d e (let m = c.loop-index-test.false in omega (arith, l, m)))
    (λ k d m n. c.loop-index-2.invariant k d m (let o = c.loop-index-2-test.false in omega (arith, n, o)))
