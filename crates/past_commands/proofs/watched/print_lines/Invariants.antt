use Rattle.std.proofs.Common.{drop}
use Rattle.past_commands.specs.Watched.{hits_lines}
use Rattle.past_commands.proofs.Printing.{Halfway}
use Rattle.past_commands.proofs.watched.print_lines.Given as goal

abbrev pub invariant-loop-number : goal.invariant-loop-number
invariant-loop-number g l = Halfway (g.S.Sink.took l.fn.out) (g.S.Sink.took l.out) (hits_lines l.hits l.pcs) (hits_lines (drop l.number l.hits) (drop l.number l.pcs)) (g.S.Sink.failures l.fn.out) (g.S.Sink.failures l.out)
