use Rattle.phase_tests.proofs.turns.+room_from.Given as goal

abbrev pub decreases-room_from : goal.decreases-room_from
decreases-room_from l = l.left
