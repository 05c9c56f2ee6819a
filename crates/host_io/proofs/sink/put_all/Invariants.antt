use Rattle.std.proofs.Common.{◌≡◌, length}
use Rattle.host_io.proofs.Putting.{Putting}
use Rattle.host_io.proofs.sink.put_all.Given as goal

abbrev pub invariant-loop-rest : goal.invariant-loop-rest
invariant-loop-rest g l = record {
  putting : Putting (g.S.Sink.took l.fn.out) (g.S.Sink.took l.out) l.bytes l.rest;
  failures : g.S.Sink.failures l.out ≡ g.S.Sink.failures l.fn.out;
}

abbrev pub decreases-loop-rest : goal.decreases-loop-rest
decreases-loop-rest g l = length l.rest
