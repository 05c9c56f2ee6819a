use Rattle.std.proofs.Common.{List, Option, length, sym, ◌∙◌, ap}
use Rattle.round_schedule.specs.declared.span.Span.{Span}
use Rattle.hunter.proofs.Alike.{tells}
use Rattle.hunter.proofs.going.are_alike.Goals as goal

pub returns : goal.returns
returns c = λ m n first second.
    let size = λ (t : List (Option Span)). length t in
    tells m n c.args.one.now c.args.other.now c.are_same.result first second
    (ap size (sym c.reservations-first.ensures.reservations) ∙ c.reservations-first.ensures.count)
    (ap size (sym c.reservations-second.ensures.reservations) ∙ c.reservations-second.ensures.count)
    c.are_same.ensures
