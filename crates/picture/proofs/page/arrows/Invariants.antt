use Rattle.std.proofs.Common.{◌≡◌, ◌++◌, [], take}
use Rattle.picture.specs.Arrows.{arrows_to}
use Rattle.picture.specs.Layout.{each_with_earlier}
use Rattle.picture.proofs.page.arrows.Given as goal

abbrev pub invariant-loop-number : goal.invariant-loop-number
invariant-loop-number l = l.line ≡ l.fn.line ++ each_with_earlier (arrows_to l.trace.events) [] (take l.number l.boxes)
