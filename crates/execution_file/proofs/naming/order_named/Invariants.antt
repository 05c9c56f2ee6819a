use Rattle.std.proofs.Common.{map, take}
use Rattle.execution_file.specs.Views.{turn_view}
use Rattle.execution_file.specs.Turns.{AreNames}
use Rattle.execution_file.specs.Sorting.{AreSorted}
use Rattle.execution_file.proofs.naming.order_named.Given as goal

abbrev pub invariant-loop-number : goal.invariant-loop-number
invariant-loop-number l = record {
  names : AreNames (take l.number (map turn_view l.turns)) l.events l.order.items;
  sorted : AreSorted l.events l.order.items l.all.items;
}
