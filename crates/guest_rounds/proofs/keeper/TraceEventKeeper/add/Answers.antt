use Rattle.std.proofs.Common.{◌++◌, List, sym, ap, ◌∙◌, subst, append_assoc, arith}
use Rattle.round_schedule.specs.declared.event.Event.{Event}
use Rattle.round_schedule.specs.ReservingTurn.{log_events}
use Rattle.trace.specs.Traced.{IsTrace}
use Rattle.trace.proofs.Growing.{beginning}
use Rattle.guest_rounds.specs.HartEnds.{events_of_ends}
use Rattle.guest_rounds.proofs.keeper.TraceEventKeeper.add.Goals as goal

pub add_parallel-requires-clause-sound : goal.add_parallel-requires-clause-sound
add_parallel-requires-clause-sound c =
    let first = events_of_ends c.args.round 0 c.args.ends.now in
    let second = log_events c.args.round 0 c.args.log.now.closed in
    let whole = subst IsTrace (sym (append_assoc c.requires.sound.0 first second)) c.requires.sound.2 in
    subst (λ (es : List Event). IsTrace (es ++ first)) (sym c.requires.sound.1) (beginning (c.requires.sound.0 ++ first) second whole)

pub add_serial-requires-clause-sound : goal.add_serial-requires-clause-sound
add_serial-requires-clause-sound c =
    let first = events_of_ends c.args.round 0 c.args.ends.now in
    let second = log_events c.args.round 0 c.args.log.now.closed in
    let whole = subst IsTrace (sym (append_assoc c.requires.sound.0 first second)) c.requires.sound.2 in
    subst (λ (es : List Event). IsTrace (es ++ second)) (sym (c.add_parallel.ensures.events ∙ ap (λ (es : List Event). es ++ first) c.requires.sound.1)) whole

pub add_serial-requires-clause-room : goal.add_serial-requires-clause-room
add_serial-requires-clause-room c = omega (arith, c.requires.room.1.1, c.requires.room.2, c.add_parallel.ensures.room)

pub returns-clause-kept : goal.returns-clause-kept
returns-clause-kept c = λ es kept.
    let first = events_of_ends c.args.round 0 c.args.ends.now in
    let second = log_events c.args.round 0 c.args.log.now.closed in
    c.add_serial.ensures.events ∙ ap (λ (x : List Event). x ++ second) (c.add_parallel.ensures.events ∙ ap (λ (x : List Event). x ++ first) kept) ∙ append_assoc es first second
