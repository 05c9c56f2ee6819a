use Rattle.std.proofs.Common.{◌≡◌, take}
use Rattle.hart_ends.specs.Told.{bytes_told}
use Rattle.hart_ends.proofs.table.copied.Given as goal

abbrev pub invariant-loop-bytes : goal.invariant-loop-bytes
invariant-loop-bytes l = bytes_told l.copy.items ≡ bytes_told (take l.bytes-index l.seen)
