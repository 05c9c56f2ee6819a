use Rattle.std.proofs.Common.{◌≡◌, ℕ, Option, is_some, refl, subst}
use Rattle.std.specs.Prelude.{IfOk}
use Rattle.std.proofs.lemmas.Result.{IfOk-weaker}
use Rattle.gdb_packets.specs.declared.request.Request.TheVariants as requests
use Rattle.gdb_packets.specs.Writing.{packet_text}
use Rattle.gdb_answers.specs.Answers.{thread_list_answer}
use Rattle.gdb_talk.specs.Told.{done_if, hart_of_thread}
use Rattle.gdb_session.specs.Answers.{note_text_of, stands_text}
use Rattle.gdb_runs.specs.Sessions.{recorded_of}
use Rattle.gdb_session.proofs.Arriving.{replied_with}
use Rattle.gdb_session.proofs.reading.reply_at.Goals as goal

pub returns-in-WhyStopped-clause-replies : goal.returns-in-WhyStopped-clause-replies
returns-in-WhyStopped-clause-replies g c = λ m is.
    let r = recorded_of m c.args.run.now in
    let t = c.args.standing in
    IfOk-weaker c.say_where.result _ _
    (λ text e. replied_with r t c.args.request requests.WhyStopped (stands_text r t) text.items c.in-WhyStopped.is refl e)
    (c.say_where.ensures.text m is)

pub returns-in-Note-clause-replies : goal.returns-in-Note-clause-replies
returns-in-Note-clause-replies g c = λ m is.
    let r = recorded_of m c.args.run.now in
    let t = c.args.standing in
    let thread = c.in-Note.thread in
    IfOk-weaker c.say_note.result _ _
    (λ text e. replied_with r t c.args.request (requests.Note thread) (note_text_of r t (hart_of_thread r.harts thread)) text.items c.in-Note.is refl e)
    (c.say_note.ensures.text m is)

pub returns-in-ThreadList-clause-replies : goal.returns-in-ThreadList-clause-replies
returns-in-ThreadList-clause-replies g c = λ m is.
    let r = recorded_of m c.args.run.now in
    let t = c.args.standing in
    let asked = c.in-ThreadList in
    IfOk-weaker c.answer_threads.result _ _
    (λ text e. replied_with r t c.args.request (requests.ThreadList asked.offset asked.count) (thread_list_answer m t.point r.harts asked.offset asked.count) text.items asked.is refl e)
    (c.answer_threads.ensures.text m is)
