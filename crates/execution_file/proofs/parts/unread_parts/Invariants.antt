use Rattle.std.proofs.Common.{◌≡◌, [], map, take}
use Rattle.execution_file.specs.Views.{hart_view}
use Rattle.execution_file.specs.Deeds.{deeds}
use Rattle.execution_file.proofs.parts.unread_parts.Given as goal

abbrev pub invariant-loop-number : goal.invariant-loop-number
invariant-loop-number l = map hart_view l.parts.items ≡ deeds (take l.number l.harts) []
