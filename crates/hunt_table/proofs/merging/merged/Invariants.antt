use Rattle.std.proofs.Common.{◌≡◌, ◌+◌, ◌∷◌, List, take}
use Rattle.hunt_table.specs.Merging.{IsMerged, harts_of}
use Rattle.hunt_table.specs.declared.table.Table.{Table}
use Rattle.hunt_table.proofs.Slices.{AreReadOf}
use Rattle.hunt_table.proofs.merging.merged.Given as goal

-- the tables that were read of the texts so far are merged
abbrev pub invariant-loop-text : goal.invariant-loop-text
invariant-loop-text l =
    (t : Table) × (ts : List Table) × AreReadOf (take (l.text-index + 1) l.texts) (t ∷ ts) × IsMerged t ts l.whole × (l.harts ≡ harts_of t.rows.items)
