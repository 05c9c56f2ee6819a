use Rattle.std.proofs.Common.{◌≡◌, drop}
use Rattle.std.specs.List.{list_all}
use Rattle.hunter.specs.Hunts.{has_exited}
use Rattle.hunter.proofs.hunting.have_all_exited.Given as goal

-- the rows so far have all exited
abbrev pub invariant-loop-row : goal.invariant-loop-row
invariant-loop-row l = list_all (λ r. list_all has_exited r.ending.stops) (drop l.row-index l.rows) ≡ list_all (λ r. list_all has_exited r.ending.stops) l.rows
