use Rattle.std.proofs.Common.{◌≡◌, ◌++◌, [], take}
use Rattle.picture.specs.Bands.{band_at}
use Rattle.picture.specs.Layout.{each_with_earlier}
use Rattle.picture.proofs.page.bands.Given as goal

abbrev pub invariant-loop-number : goal.invariant-loop-number
invariant-loop-number l = l.line ≡ l.fn.line ++ each_with_earlier (band_at l.width l.boxes) [] (take l.number l.boxes)
