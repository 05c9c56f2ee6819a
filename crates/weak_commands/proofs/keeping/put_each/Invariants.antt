use Rattle.weak_commands.proofs.Saved.{Halfway}
use Rattle.weak_commands.proofs.keeping.put_each.Given as goal

abbrev pub invariant-loop-index : goal.invariant-loop-index
invariant-loop-index g l = Halfway g.W.World.was_given l.folder l.executions l.index l.fn.world l.world
