use Rattle.std.proofs.Common.{ℕ, ◌<◌, [], length, get_or, Contains}
use Rattle.all_endings.specs.StoreLists.{Stored}
use Rattle.own_moves.specs.Owned.{owns_of}
use Rattle.all_checker.specs.Nodes.{HaveNext, lists_told}
use Rattle.all_checker.proofs.looking.next_nodes.Given as goal

abbrev pub invariant-loop-stores : goal.invariant-loop-stores
invariant-loop-stores l = (h : ℕ) (s : Stored) → h < l.stores-index → Contains (get_or (lists_told l.offered) h []) s →
    HaveNext (owns_of l.program.owned.now) l.program.steps l.program.pages.now.memory (length l.program.maps.now) l.next.items l.node s
