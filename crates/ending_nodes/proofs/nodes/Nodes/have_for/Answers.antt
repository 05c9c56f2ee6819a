use Rattle.std.proofs.Common.{List, subst}
use Rattle.ending_nodes.specs.declared.node.Node.{Node}
use Rattle.ending_nodes.specs.KeptNodes.{HaveOneFor}
use Rattle.ending_nodes.proofs.nodes.Nodes.have_for.Goals as goal

pub returns-then-has_at : goal.returns-then-has_at
returns-then-has_at c = λ yes. subst (λ (ns : List Node). HaveOneFor ns c.args.node.now) c.deref.ensures.value (c.has_at.ensures c.if-has_at.true)
