use Rattle.std.proofs.Common.{◌≡◌, ◌++◌, subst, sym, ◌∙◌, Option}
use Rattle.gdb_replies.specs.declared.note.ThreadNote.{ThreadNote}
use Rattle.gdb_answers.specs.Commands.{hart_entry}
use Rattle.gdb_answers.proofs.commands.add_line.Goals as goal

pub returns-in_ok-add_hart_line-clause-entry : goal.returns-in_ok-add_hart_line-clause-entry
returns-in_ok-add_hart_line-clause-entry g c = λ m is.
    let P : Option ThreadNote → Type 0 = λ n. c.add_hart_line.new.text.items ≡ c.args.text.now.items ++ hart_entry n in
    subst P (sym c.in-Some.is ∙ c.in_ok-note.ensures.note m is) c.in_ok-add_hart_line.ensures
