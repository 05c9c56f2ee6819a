use Rattle.std.proofs.Common.{◌≡◌, take}
use Rattle.hart_ends.specs.Told.{ends_told}
use Rattle.hart_ends.proofs.choices.with_end.Given as goal

abbrev pub invariant-loop-one : goal.invariant-loop-one
invariant-loop-one l = ends_told l.ends.items ≡ ends_told (take l.one-index l.before)
