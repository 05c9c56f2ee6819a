use Rattle.list_suffixes.proofs.Serving.{first_serves}
use Rattle.list_suffixes.proofs.laws.first_node_serves.Goals as goal

pub returns : goal.returns
returns c = first_serves
