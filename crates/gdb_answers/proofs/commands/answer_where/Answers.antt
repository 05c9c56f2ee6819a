use Rattle.std.proofs.Common.{◌≡◌, List, ℕ, subst, sym, ap, ◌∙◌, Option}
use Rattle.std.specs.Prelude.{IfOk}
use Rattle.hart_step.specs.declared.hart.Hart.{Hart}
use Rattle.moments.specs.Sights.{Sight}
use Rattle.hex.specs.Hex.{encode_lower}
use Rattle.gdb_packets.specs.Writing.{packet_text}
use Rattle.gdb_replies.specs.CommandTexts.{where_line}
use Rattle.gdb_replies.specs.declared.note.ThreadNote.{ThreadNote}
use Rattle.gdb_talk.specs.Told.{note_of}
use Rattle.gdb_answers.specs.Commands.{where_answer}
use Rattle.gdb_answers.proofs.commands.answer_where.Goals as goal

pub returns-clause-text : goal.returns-clause-text
returns-clause-text g c = λ m is.
    let at = c.args.point.moment in
    let i = at.place.hart in
    let P : Option (Sight Hart) → Type 0 = λ o. IfOk c.reply_text-2.result (λ text. text.items ≡ packet_text (where_answer at o)) in
    let W : List ℕ → Type 0 = λ xs. IfOk c.reply_text-2.result (λ text. text.items ≡ packet_text (encode_lower xs)) in
    subst P (sym c.in-Some.is ∙ c.in_ok-sight.ensures.sight m is)
    (subst W
    (c.as_slice.ensures.value ∙ c.in_ok-text.ensures
    ∙ ap (λ (n : ThreadNote). where_line n at.place.count c.hart-hart.result.pc) c.note_of-note.ensures
    ∙ ap (λ (h : Hart). where_line (note_of i h at) at.place.count h.pc) c.hart-hart.ensures)
    c.reply_text-2.ensures)
