use Rattle.std.proofs.Common.{◌-◌}
use Rattle.guest_turns.proofs.TurnHartsFound.{Shows}
use Rattle.guest_turns.proofs.turn_harts.visit_turn.Given as goal

abbrev pub invariant-loop-done : goal.invariant-loop-done
invariant-loop-done g l =
    Shows g.V.TurnVisitor.knows l.turn l.done l.fn.visitor l.visitor (record { hart = l.fn.h; state = l.fn.state }) (record { hart = l.h; state = l.state })

abbrev pub decreases-loop-done : goal.decreases-loop-done
decreases-loop-done g l = l.turn.budget - l.done
