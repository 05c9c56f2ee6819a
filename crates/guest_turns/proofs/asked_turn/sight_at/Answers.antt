use Rattle.std.proofs.Common.{arith}
use Rattle.guest_turns.proofs.AskedTurns.{less_room}
use Rattle.guest_turns.proofs.asked_turn.sight_at.Goals as goal

pub after_one_more-requires-clause-console : goal.after_one_more-requires-clause-console
after_one_more-requires-clause-console c = c.take_turn.ensures.console 1 (less_room _ c.args.place.budget c.args.shared.now.console (omega (arith, c.requires.count, c.if-place.false)) c.requires.console)
