use Rattle.std.proofs.Common.{◌≡◌, take}
use Rattle.timelines.specs.OwnParts.{stores_among}
use Rattle.timelines.proofs.own_part.stores_among.Given as goal

abbrev pub invariant-loop-access : goal.invariant-loop-access
invariant-loop-access l = l.stores.items ≡ stores_among (take l.access-index l.accesses)
