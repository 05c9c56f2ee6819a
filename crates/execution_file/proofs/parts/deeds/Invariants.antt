use Rattle.std.proofs.Common.{◌≡◌, map, take}
use Rattle.execution_file.specs.Views.{hart_view}
use Rattle.execution_file.specs.Deeds.{deeds}
use Rattle.execution_file.proofs.parts.deeds.Given as goal

abbrev pub invariant-loop-i : goal.invariant-loop-i
invariant-loop-i l = map hart_view l.parts.items ≡ deeds l.harts (take l.i l.events)
