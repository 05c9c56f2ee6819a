use Rattle.std.proofs.Common.{◌≡◌, take}
use Rattle.hart_ends.specs.Told.{bytes_told}
use Rattle.endings_finder.proofs.others.look_alike.Given as goal

abbrev pub invariant-loop-index : goal.invariant-loop-index
invariant-loop-index l = bytes_told (take l.index l.seen) ≡ bytes_told (take l.index l.others)
