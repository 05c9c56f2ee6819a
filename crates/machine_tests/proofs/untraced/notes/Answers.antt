use Rattle.std.proofs.Common.{List, rules, sym, subst}
use Rattle.round_schedule.specs.declared.event.Event.{Event}
use Rattle.machine.specs.Untraced.{AreLast}
use Rattle.machine_tests.proofs.untraced.notes.Goals as goal

pub notes_both_rounds-noted-requires : goal.notes_both_rounds-noted-requires
notes_both_rounds-noted-requires g c = (search rules, subst (λ (es : List Event). AreLast c.in_ok-machine.machine es) (sym c.new-trace.ensures.events) c.in_ok-machine.ensures)
