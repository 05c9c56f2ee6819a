use Rattle.watching.proofs.EventsTell.{hits_added}
use Rattle.watching.proofs.hits.add_hits.Goals as goal

pub returns : goal.returns
returns c =
    hits_added c.args.way c.args.saved.now c.args.watches.now c.args.earlier.now c.args.later.now c.args.event.now c.args.found.now.items c.add_hit.new.found.items c.add_hit-2.new.found.items
    c.beside-others.result.now c.first_rival-rival.result c.first_telling-told.result c.beside-others.ensures c.first_rival-rival.ensures c.first_telling-told.ensures c.in_ok-add_hit.ensures c.in_ok-add_hit-2.ensures
