use Rattle.moments.proofs.Left.{moves_leave}
use Rattle.moments.proofs.laws.moves_leave_the_trace.Goals as goal

pub returns : goal.returns
returns g c = moves_leave _ _
