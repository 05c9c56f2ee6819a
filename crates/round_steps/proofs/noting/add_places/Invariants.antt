use Rattle.std.proofs.Common.{◌≡◌, ◌++◌, take}
use Rattle.round_steps.specs.Places.{places}
use Rattle.round_steps.proofs.noting.add_places.Given as goal

abbrev pub invariant-loop-count : goal.invariant-loop-count
invariant-loop-count l = l.found.items ≡ l.fn.found.items ++ places l.phase l.hart (take l.count-index l.counts)
