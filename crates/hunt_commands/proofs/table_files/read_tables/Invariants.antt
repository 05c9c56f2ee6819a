use Rattle.std.proofs.Common.{map, take}
use Rattle.hunt_commands.specs.Merges.{AreRead}
use Rattle.hunt_commands.proofs.table_files.read_tables.Given as goal

-- those of the paths so far
abbrev pub invariant-loop-path : goal.invariant-loop-path
invariant-loop-path g l = AreRead (g.W.World.files l.world) (map (λ s. s.now) (take l.path-index l.paths)) l.tables.items
