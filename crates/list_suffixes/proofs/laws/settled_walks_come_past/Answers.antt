use Rattle.list_suffixes.proofs.Settled.{settled_come}
use Rattle.list_suffixes.proofs.laws.settled_walks_come_past.Goals as goal

pub returns : goal.returns
returns c = settled_come
