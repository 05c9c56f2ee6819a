use Rattle.std.proofs.Common.{length, arith}
use Rattle.ending_nodes.specs.KeptNodes.{node_told}
use Rattle.ending_nodes.proofs.Told.{told_at_index}
use Rattle.ending_nodes.proofs.nodes.has_at.Goals as goal

pub returns : goal.returns
returns c = λ yes owns k image hs.
    let t = c.index-all-index.result in
    let over = c.if-index-all.false in (
      node_told image t,
      told_at_index (node_told image) c.args.all.now c.args.index t (omega (arith, over)) c.index-all-index.is,
      λ m served. c.standing_nodes_serve.ensures owns k image hs (node_told image t) (node_told image c.args.node.now) m (c.node_stands_for.ensures yes image (length hs)) served,
    )
