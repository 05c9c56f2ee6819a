use Rattle.std.proofs.Common.{◌+◌, ◌*◌, length}
use Rattle.machine.proofs.SeatsLeft.{steps_left}
use Rattle.machine.proofs.untraced.+others.Given as goal

abbrev pub decreases-UntracedMachine::walk_beside : goal.decreases-UntracedMachine::walk_beside
decreases-UntracedMachine::walk_beside g l = 3 * length l.seats.others.items + 1

abbrev pub decreases-UntracedMachine::walk_with : goal.decreases-UntracedMachine::walk_with
decreases-UntracedMachine::walk_with g l = steps_left l.seats.now + 1

abbrev pub decreases-UntracedMachine::walk_with-ours : goal.decreases-UntracedMachine::walk_with-ours
decreases-UntracedMachine::walk_with-ours g l = steps_left l.seats.now
