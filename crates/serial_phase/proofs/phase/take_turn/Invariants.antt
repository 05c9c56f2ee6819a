use Rattle.serial_phase.specs.UnderWay.{Under}
use Rattle.serial_phase.proofs.phase.take_turn.Given as goal

abbrev pub invariant-loop-left : goal.invariant-loop-left
invariant-loop-left l = Under l.turn l.left (record { hart = l.fn.h; state = l.fn.state }) (record { hart = l.h; state = l.state })

abbrev pub decreases-loop-left : goal.decreases-loop-left
decreases-loop-left l = l.left
