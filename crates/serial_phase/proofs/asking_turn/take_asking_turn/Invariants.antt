use Rattle.serial_phase.proofs.Turns.{Watched}
use Rattle.serial_phase.proofs.asking_turn.take_asking_turn.Given as goal

abbrev pub invariant-loop-left : goal.invariant-loop-left
invariant-loop-left l = Watched l.turn l.left l.asked (record { hart = l.fn.h; state = l.fn.state }) (record { hart = l.h; state = l.state })

abbrev pub decreases-loop-left : goal.decreases-loop-left
decreases-loop-left l = l.left
