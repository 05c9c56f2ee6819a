use Rattle.std.proofs.Common.{◌≡◌, ◌++◌, ◌∙◌, ◌+◌, ℕ, List, ap, drop, map, subst, sym}
use Rattle.store_buffer.specs.Covered.{stores_of}
use Rattle.commit_phase.specs.Commit.{all_buffered}
use Rattle.commit_phase.specs.Shards.{IsShardReady}
use Rattle.commit_phase.proofs.Sharding.{all_at, drop_next, left_past, left_same, shard_still_ready}
use Rattle.commit_phase.proofs.shard.write_all.Goals as goal

pub write_shard-requires-clause-ready : goal.write_shard-requires-clause-ready
write_shard-requires-clause-ready g c =
    let left = c.loop-round.invariant.left in
    shard_still_ready c.args.first c.args.parts.now c.loop-round.parts c.buffer.result.now left.ready left.count
    (subst (λ (es : List (ℕ × ℕ)). IsShardReady c.args.first c.args.parts.now es) (sym c.buffer.ensures)
    (all_at g.B.Buffered.bytes (IsShardReady c.args.first c.args.parts.now) c.args.rounds.now c.loop-round.round-index c.round-item.result c.loop-round-test.true c.round-item.is c.requires.ready))

pub loop-round-preserved : goal.loop-round-preserved
loop-round-preserved g c =
    let bs = map g.B.Buffered.bytes c.args.rounds.now in
    let i = c.loop-round.round-index in
    let next : all_buffered (drop i bs) ≡ stores_of c.buffer.result.now ++ all_buffered (drop (i + 1) bs) =
    ap all_buffered (drop_next g.B.Buffered.bytes c.args.rounds.now i c.round-item.result c.loop-round-test.true c.round-item.is)
    ∙ ap (λ (es : List (ℕ × ℕ)). stores_of es ++ all_buffered (drop (i + 1) bs)) (sym c.buffer.ensures) in
    record {
      left = left_past c.args.first c.args.parts.now c.loop-round.parts c.write_shard.new.parts (all_buffered bs) (stores_of c.buffer.result.now) (all_buffered (drop (i + 1) bs)) c.write_shard.ensures
          (left_same c.args.first c.args.parts.now c.loop-round.parts (all_buffered bs) _ _ next c.loop-round.invariant.left);
    }
