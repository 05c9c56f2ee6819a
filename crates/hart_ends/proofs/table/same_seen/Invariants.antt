use Rattle.std.proofs.Common.{◌≡◌, take}
use Rattle.hart_ends.specs.Told.{bytes_told}
use Rattle.hart_ends.proofs.table.same_seen.Given as goal

abbrev pub invariant-loop-index : goal.invariant-loop-index
invariant-loop-index l = bytes_told (take l.index l.a) ≡ bytes_told (take l.index l.b)
