use Rattle.std.proofs.Common.{Contains, List}
use Rattle.all_endings.specs.Endings.{Ending}
use Rattle.all_endings.specs.Walking.{HartEnding, ending_with}
use Rattle.hart_ends.specs.Told.{bytes_told, table_told, ways_told}
use Rattle.hart_ends.proofs.table.add_endings.Given as goal

abbrev pub invariant-loop-harts : goal.invariant-loop-harts
invariant-loop-harts l = record {
  kept : (e : Ending) → Contains (table_told l.fn.table.items) e → Contains (table_told l.table.items) e;
  added : (es : List HartEnding) → Contains (ways_told l.yielded) es → Contains (table_told l.table.items) (ending_with es (bytes_told l.seen));
}
