use Rattle.std.proofs.Common.{◌≡◌, drop}
use Rattle.std.specs.List.{list_all}
use Rattle.plan_hunt.specs.Endings.{ends_well}
use Rattle.hunter.proofs.hunting.all_end_well.Given as goal

-- in the rows so far all end well
abbrev pub invariant-loop-row : goal.invariant-loop-row
invariant-loop-row l = list_all (λ r. list_all ends_well r.ending.stops) (drop l.row-index l.rows) ≡ list_all (λ r. list_all ends_well r.ending.stops) l.rows
