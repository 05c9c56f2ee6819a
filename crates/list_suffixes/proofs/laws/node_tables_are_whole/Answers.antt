use Rattle.list_suffixes.proofs.Nodes.{node_whole}
use Rattle.list_suffixes.proofs.laws.node_tables_are_whole.Goals as goal

pub returns : goal.returns
returns c = node_whole
