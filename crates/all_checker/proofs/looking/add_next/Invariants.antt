use Rattle.std.proofs.Common.{length, take, Contains}
use Rattle.all_endings.specs.StoreLists.{Stored}
use Rattle.hart_states.specs.States.{listed}
use Rattle.own_moves.specs.Owned.{owns_of}
use Rattle.ending_nodes.specs.KeptNodes.{Grow}
use Rattle.all_checker.specs.Nodes.{HaveNext}
use Rattle.all_checker.proofs.looking.add_next.Given as goal

abbrev pub invariant-loop-store : goal.invariant-loop-store
invariant-loop-store l = record {
  grow : Grow l.fn.next.items l.next.items;
  added : (s : Stored) → Contains (listed (take l.store-index l.stores)) s →
      HaveNext (owns_of l.program.owned.now) l.program.steps l.program.pages.now.memory (length l.program.maps.now) l.next.items l.node s;
}
