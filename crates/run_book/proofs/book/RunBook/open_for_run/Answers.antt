use Rattle.run_book.proofs.Working.{first_calls, others_honest}
use Rattle.run_book.proofs.book.RunBook.open_for_run.Goals as goal

pub returns-clause-calling : goal.returns-clause-calling
returns-clause-calling g c =
    first_calls g.E.Entry.turn g.E.Entry.seat c.in_ok-book.book.table c.args.harts c.args.workers c.in_ok-book.book.harts c.in_ok-book.seats.items c.remove-calling.result c.in_ok-book.ensures.book.0 c.in_ok-book.ensures.seats c.requires c.remove-calling.ensures.value

pub returns-clause-others : goal.returns-clause-others
returns-clause-others g c =
    others_honest g.E.Entry.turn g.E.Entry.seat c.in_ok-book.book.table c.args.harts c.args.workers c.in_ok-book.book.harts c.in_ok-book.seats.items c.remove-calling.new.self.items c.in_ok-book.ensures.book.0 c.in_ok-book.ensures.seats c.requires c.remove-calling.ensures.items
