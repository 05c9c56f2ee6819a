use Rattle.std.proofs.Common.{◌≡◌, take}
use Rattle.hart_ends.specs.Told.{ends_told}
use Rattle.hart_ends.proofs.table.same_harts.Given as goal

abbrev pub invariant-loop-index : goal.invariant-loop-index
invariant-loop-index l = ends_told (take l.index l.a) ≡ ends_told (take l.index l.b)
