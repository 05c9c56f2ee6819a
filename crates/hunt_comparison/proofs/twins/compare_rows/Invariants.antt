use Rattle.std.proofs.Common.{take}
use Rattle.hunt_comparison.specs.Twins.{AreCompared}
use Rattle.hunt_comparison.proofs.twins.compare_rows.Given as goal

-- those of the rows so far
abbrev pub invariant-loop-row : goal.invariant-loop-row
invariant-loop-row l = AreCompared (take l.row-index l.rows) l.others l.compared.items
