use Rattle.std.proofs.Common.{refl}
use Rattle.hart_ends.proofs.Told.{new}
use Rattle.ending_nodes.specs.KeptNodes.{node_told}
use Rattle.ending_nodes.proofs.nodes.Nodes.add.Goals as goal

pub returns-clause-have : goal.returns-clause-have
returns-clause-have c = λ owns k image hs.
    (node_told image c.args.node, new (node_told image) c.args.self.now.all.items _ c.args.node (node_told image c.args.node) c.in_ok-push-2.ensures.items refl, λ m served. served)
