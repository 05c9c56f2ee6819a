use Rattle.memory_order.proofs.Forms.{bytes_fit}
use Rattle.memory_order.proofs.checking.kinds.event_at.Goals as goal

pub returns-clause-fits : goal.returns-clause-fits
returns-clause-fits c = bytes_fit _ (c.requires.formed c.args.index _ c.requires.within)
