use Rattle.std.proofs.Common.{ap, ◌∙◌, arith}
use Rattle.run_book.proofs.Working.{whole}
use Rattle.run_book.proofs.book.RunBook.take_whole.Goals as goal

pub returns-then-len-self-clause-whole : goal.returns-then-len-self-clause-whole
returns-then-len-self-clause-whole g c =
    let es = c.in-Ok.history in
    let long = c.len.ensures ∙ es.ok.0 in
    let same = c.self.invariant.2 in
    let shown = ap (λ z. z.harts) c.self.view_is in
    let t = c.if-len-self.true in
    whole g.E.Entry.turn g.E.Entry.seat g.E.Entry.right c.args.s.now.round c.args.self.now.harts es.items c.in-Ok.ensures.taken.round_is (omega arith)
