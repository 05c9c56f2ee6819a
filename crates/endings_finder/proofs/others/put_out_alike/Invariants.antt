use Rattle.std.proofs.Common.{◌≡◌, map, take}
use Rattle.hart_ends.specs.Told.{bytes_told}
use Rattle.endings_finder.specs.Checked.{output_told}
use Rattle.endings_finder.proofs.others.put_out_alike.Given as goal

abbrev pub invariant-loop-index : goal.invariant-loop-index
invariant-loop-index l = bytes_told (take l.index l.outputs) ≡ map output_told (take l.index l.others)
