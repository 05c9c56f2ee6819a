use Rattle.std.proofs.Common.{◌≡◌, ◌%◌, ◌^◌, ◌<◌, ℕ, All}
use Rattle.store_buffer.specs.declared.line.Line.{Line}
use Rattle.store_buffer.specs.Lines.{lent_bytes}
use Rattle.commit_phase.proofs.Sharding.{Sharding}
use Rattle.commit_phase.proofs.shard.write_shard.Given as goal

abbrev pub invariant-loop-start : goal.invariant-loop-start
invariant-loop-start l = record {
  sharding : Sharding l.first l.fn.parts l.parts l.fn.buffer (lent_bytes l.start-iterator);
  aligned : All (λ (e : ℕ × Line). (e.0 % 64 ≡ 0) × (e.0 < 2 ^ 64)) l.start-iterator;
}
