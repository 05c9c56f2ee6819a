use Rattle.std.proofs.Common.{drop, map}
use Rattle.commit_phase.specs.Commit.{all_buffered}
use Rattle.commit_phase.proofs.Sharding.{Left}
use Rattle.commit_phase.proofs.shard.write_all.Given as goal

abbrev pub invariant-loop-round : goal.invariant-loop-round
invariant-loop-round g l = record {
  left : Left l.first l.fn.parts l.parts (all_buffered (map g.B.Buffered.bytes l.rounds)) (all_buffered (drop l.round-index (map g.B.Buffered.bytes l.rounds)));
}
