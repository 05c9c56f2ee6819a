use Rattle.guest_rounds.proofs.events.+add_serial.Given as goal

abbrev pub decreases-add_serial : goal.decreases-add_serial
decreases-add_serial l = l.left
