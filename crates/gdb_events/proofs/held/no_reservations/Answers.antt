use Rattle.std.proofs.Common.{◌∙◌, sym}
use Rattle.round_schedule.proofs.Holding.{held_start}
use Rattle.gdb_events.proofs.held.no_reservations.Goals as goal

pub returns-clause-tied : goal.returns-clause-tied
returns-clause-tied c = record { each = λ h low. c.loop-i.invariant.none h ∙ sym (held_start h) }
