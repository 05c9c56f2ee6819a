use Rattle.std.proofs.Common.{◌≡◌, ◌+◌, length}
use Rattle.fence_search.specs.Gathered.{plans_of}
use Rattle.fence_search.proofs.gathering.fewest_weaknesses.Given as goal

-- none is lost so far
abbrev pub invariant-loop : goal.invariant-loop
invariant-loop l = plans_of l.gathered.weaknesses.items + l.gathered.unnamed.plans + length l.left.items ≡ length l.fn.founds.items
