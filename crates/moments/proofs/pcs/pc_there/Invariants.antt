use Rattle.std.proofs.Common.{◌≤◌, ◌-◌}
use Rattle.moments.specs.Pcs.{GoesOn}
use Rattle.moments.proofs.pcs.pc_there.Given as goal

-- so many instructions are done, and the one that is sought is not
abbrev pub invariant-loop-done : goal.invariant-loop-done
invariant-loop-done g l = (l.done ≤ l.count) × GoesOn l.quota l.done l.code.first l.code.instructions l.fn.h (g.B.Bus.memory l.fn.b) l.h (g.B.Bus.memory l.b)

abbrev pub decreases-loop-done : goal.decreases-loop-done
decreases-loop-done g l = l.quota - l.done
