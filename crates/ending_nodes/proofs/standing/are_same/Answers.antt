use Rattle.ending_nodes.proofs.Same.{same_stores}
use Rattle.ending_nodes.proofs.standing.are_same.Goals as goal

pub returns : goal.returns
returns c = λ yes. (same_stores c.args.stores.now c.args.others.now c.eq.result c.eq.ensures).0 yes
