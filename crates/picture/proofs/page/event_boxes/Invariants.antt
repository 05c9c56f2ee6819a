use Rattle.std.proofs.Common.{◌≡◌, ◌++◌, [], map, take}
use Rattle.trace.specs.Traced.{opening_at}
use Rattle.picture.specs.Titles.{told}
use Rattle.picture.specs.Boxes.{box_text}
use Rattle.picture.specs.Layout.{each_with_earlier}
use Rattle.picture.proofs.page.event_boxes.Given as goal

abbrev pub invariant-loop-number : goal.invariant-loop-number
invariant-loop-number l = l.line ≡ l.fn.line ++ each_with_earlier (box_text l.trace.events (opening_at l.trace.opening) (map told l.sites)) [] (take l.number l.boxes)
