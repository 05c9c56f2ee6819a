use Rattle.std.proofs.Common.{◌≡◌, ◌++◌, drop}
use Rattle.execution_moments.specs.Courses.{stopped_from}
use Rattle.execution_moments.proofs.stopped.add_stopped.Given as goal

abbrev pub invariant-loop-number : goal.invariant-loop-number
invariant-loop-number l = l.moments.items ++ stopped_from l.number (drop l.number l.harts) ≡ l.fn.moments.items ++ stopped_from 0 l.harts
