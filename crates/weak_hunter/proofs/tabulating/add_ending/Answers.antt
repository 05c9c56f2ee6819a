use Rattle.weak_hunter.proofs.Tabled.{next_ending}
use Rattle.weak_hunter.proofs.tabulating.add_ending.Goals as goal

pub returns-clause-tally : goal.returns-clause-tally
returns-clause-tally c =
    let t = c.args.tally.now in
    let over = c.is_over_with-tally in
    next_ending over.result t.is_over c.args.extent t.done t.rows.items c.in_ok-one.one.items c.join.new.rows.items c.args.ending c.requires.going c.in_ok-one.ensures
    c.requires.few c.requires.more (rw c.deref.ensures.value at over.ensures) c.requires.tally c.in_ok-join.ensures
