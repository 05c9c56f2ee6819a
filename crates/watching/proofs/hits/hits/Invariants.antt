use Rattle.std.proofs.Common.{◌≡◌, ◌++◌, [], drop, take}
use Rattle.watching.specs.Events.{hits_from}
use Rattle.watching.proofs.hits.hits.Given as goal

abbrev pub invariant-loop-index : goal.invariant-loop-index
invariant-loop-index l = l.found.items ++ hits_from l.way l.saved l.watches (take l.index l.events) (drop l.index l.events) ≡ hits_from l.way l.saved l.watches [] l.events
