use Rattle.hunt_commands.specs.Merges.{GoOnUpTo}
use Rattle.hunt_commands.proofs.neighbours.first_apart.Given as goal

-- each table up to here goes on where the one before it ends
abbrev pub invariant-loop-index : goal.invariant-loop-index
invariant-loop-index l = GoOnUpTo l.files l.index
