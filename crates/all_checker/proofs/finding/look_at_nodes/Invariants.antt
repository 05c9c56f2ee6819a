use Rattle.std.proofs.Common.{◌-◌}
use Rattle.own_moves.specs.Owned.{owns_of}
use Rattle.all_checker.specs.Tables.{AreTaken}
use Rattle.all_checker.proofs.finding.look_at_nodes.Given as goal

-- the first nodes are looked through
abbrev pub invariant-loop-taken : goal.invariant-loop-taken
invariant-loop-taken g l = AreTaken (owns_of l.program.owned.now) l.program.steps l.program.pages.now.memory l.guest.harts.now l.guest.see.now l.taken

abbrev pub decreases-loop-taken : goal.decreases-loop-taken
decreases-loop-taken g l = l.bounds.nodes - l.taken.done
