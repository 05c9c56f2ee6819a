use Rattle.std.proofs.Common.{◌≡◌, ◌++◌, subst, sym, ◌∙◌, Option}
use Rattle.gdb_replies.specs.declared.note.ThreadNote.{ThreadNote}
use Rattle.gdb_answers.specs.Answers.{thread_entry}
use Rattle.gdb_answers.proofs.threads.add_entry.Goals as goal

pub returns-in_ok-add_thread-clause-entry : goal.returns-in_ok-add_thread-clause-entry
returns-in_ok-add_thread-clause-entry g c = λ m is.
    let P : Option ThreadNote → Type 0 = λ n. c.add_thread.new.text.items ≡ c.args.text.now.items ++ thread_entry n in
    subst P (sym c.in-Some.is ∙ c.in_ok-note.ensures.note m is) c.in_ok-add_thread.ensures
