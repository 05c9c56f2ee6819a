use Rattle.std.proofs.Common.{ap, sym, subst, ◌∙◌}
use Rattle.machine.specs.Untraced.{IsUntraced}
use Rattle.timelines.specs.Timelines.{Line}
use Rattle.gdb_answers.specs.Stores.{bytes_covered}
use Rattle.gdb_answers.proofs.Noted.{noted}
use Rattle.gdb_answers.proofs.noting.note_at.Goals as goal

pub returns-clause-note : goal.returns-clause-note
returns-clause-note g c = λ m is.
    let P : Line → Type 0 = λ t. IsUntraced m t.start in
    let after = subst P (sym c.in_ok-sight.ensures.stays) is in
    noted m c.args.look.point c.args.look.hart c.in-Some.sight c.hart.result c.note_of-note.result c.in_ok-part.part.waits c.in_ok-part.part.stores.items c.in_ok-uncommitted.uncommitted
    (sym c.in-Some.is ∙ c.in_ok-sight.ensures.sight m is) c.hart.ensures c.note_of-note.ensures (c.in_ok-part.ensures.waits m after) (c.in_ok-part.ensures.stores m after)
    (c.in_ok-uncommitted.ensures ∙ ap bytes_covered c.as_slice.ensures.value)
