use Rattle.std.proofs.Common.{◌≡◌, ◌++◌, All, length}
use Rattle.std.specs.Vec.Iter.{into_iter_items, into_iter_len}
use Rattle.ending_nodes.specs.KeptNodes.{Grow, HaveOneFor}
use Rattle.all_checker.proofs.taking.add_all.Given as goal

-- one stands for each so far
abbrev pub invariant-loop-node : goal.invariant-loop-node
invariant-loop-node l = record {
  all : l.yielded ++ into_iter_items l.node-iterator ≡ into_iter_items l.initial.node-iterator;
  left : into_iter_len l.node-iterator ≡ length (into_iter_items l.node-iterator);
  grow : Grow l.fn.nodes.all.items l.nodes.all.items;
  have : All (HaveOneFor l.nodes.all.items) l.yielded;
}
