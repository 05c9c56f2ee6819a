use Rattle.list_suffixes.proofs.Serving.{standing_serve}
use Rattle.list_suffixes.proofs.laws.standing_nodes_serve.Goals as goal

pub returns : goal.returns
returns c = standing_serve
