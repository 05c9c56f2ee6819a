use Rattle.std.proofs.Common.{[]}
use Rattle.list_suffixes.specs.Serving.{first_node}
use Rattle.ending_nodes.specs.declared.node.Node.{Node}
use Rattle.ending_nodes.specs.KeptNodes.{node_told}
use Rattle.ending_nodes.proofs.KeptNodes.{first_stands}
use Rattle.ending_nodes.proofs.node.first_node.Goals as goal

pub returns : goal.returns
returns c = λ owns k image fresh.
    let hs = c.args.harts.now in
    let n : Node = record { behind = c.new.result; list = c.new-2.result; places = c.in_ok-first_places.field-0 } in
    c.standing_nodes_serve.ensures owns k image hs (node_told image n) (first_node image hs) []
    (first_stands image hs n c.new.ensures.items c.new-2.ensures.items c.in_ok-first_places.ensures) (c.first_node_serves.ensures owns k image hs fresh)
