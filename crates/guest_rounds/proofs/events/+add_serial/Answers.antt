use Rattle.std.proofs.Common.{◌+◌, ◌++◌, List, arith, drop, drop-cons, subst, sym}
use Rattle.std.proofs.lemmas.Grind.{common_steps}
use Rattle.round_schedule.specs.declared.event.Event.{Event}
use Rattle.round_schedule.specs.ReservingTurn.{log_events}
use Rattle.trace.specs.Traced.{IsTrace}
use Rattle.trace.proofs.Growing.{beginning}
use Rattle.guest_rounds.proofs.TraceHolds.{turn_first}
use Rattle.guest_rounds.proofs.events.+add_serial.Goals as goal

pub add_turn-requires-clause-sound : goal.add_turn-requires-clause-sound
add_turn-requires-clause-sound t c =
    beginning _ _ (turn_first c.args.trace.now.events c.args.round c.args.first c.args.log.now.closed c.events.result.now (omega (arith, c.requires.harts)) c.events.ensures c.requires.sound)

pub add_serial-requires : goal.add_serial-requires
add_serial-requires t c = (
  omega (arith, c.decreases),
  (
    omega arith,
    (
      omega arith,
      (
        grind (arith, common_steps, drop-cons),
        subst (λ (x : List Event). IsTrace (x ++ log_events c.args.round (c.args.first + 1) (drop (c.args.first + 1) c.args.log.now.closed))) (sym c.add_turn.ensures.events)
            (turn_first c.args.trace.now.events c.args.round c.args.first c.args.log.now.closed c.events.result.now (omega (arith, c.requires.harts)) c.events.ensures c.requires.sound),
      ),
    ),
  ),
)
