use Rattle.list_suffixes.proofs.Serving.{raised_serve}
use Rattle.list_suffixes.proofs.laws.raised_nodes_serve.Goals as goal

pub returns : goal.returns
returns c = raised_serve
