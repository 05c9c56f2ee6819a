use Rattle.std.proofs.Common.{All, List, subst, sym}
use Rattle.round_schedule.specs.declared.event.Event.{Event}
use Rattle.picture.proofs.Shown.{IsFrom, shown_from}
use Rattle.picture.proofs.rows.events_shown.Goals as goal

pub returns-clause-later : goal.returns-clause-later
returns-clause-later c = subst (λ (es : List Event). All (IsFrom c.args.view.now) es) (sym c.in_ok-events.ensures) (shown_from c.args.view.now c.args.trace.now.events)
