use Rattle.std.proofs.Common.{◌≡◌, map, take}
use Rattle.execution_file.specs.Views.{hart_view}
use Rattle.execution_file.proofs.parts.are_said.Given as goal

abbrev pub invariant-loop-i : goal.invariant-loop-i
invariant-loop-i l = take l.i (map hart_view l.parts) ≡ take l.i (map hart_view l.did)
