use Rattle.serial_phase.proofs.PhaseUnderWay.{Serving}
use Rattle.serial_phase.proofs.phase.serial.Given as goal

abbrev pub invariant-loop-i : goal.invariant-loop-i
invariant-loop-i l = Serving l.phase l.i (record { harts = l.fn.harts; state = l.fn.state }) (record { harts = l.harts; state = l.state })
