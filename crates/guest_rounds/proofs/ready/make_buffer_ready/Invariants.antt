use Rattle.std.proofs.Common.{◌≡◌, ◌%◌, ◌^◌, ◌<◌, ℕ, All}
use Rattle.store_buffer.specs.declared.line.Line.{Line}
use Rattle.store_buffer.specs.Lines.{lent_bytes}
use Rattle.guest_rounds.proofs.LinesReady.{Readying}
use Rattle.guest_rounds.proofs.ready.make_buffer_ready.Given as goal

abbrev pub invariant-loop-start : goal.invariant-loop-start
invariant-loop-start l = record {
  readying : Readying l.fn.pages l.pages l.buffer (lent_bytes l.start-iterator);
  aligned : All (λ (e : ℕ × Line). (e.0 % 64 ≡ 0) × (e.0 < 2 ^ 64)) l.start-iterator;
}
