use Rattle.std.proofs.Common.{All}
use Rattle.many_makers.specs.Slots.{IsMade}
use Rattle.many_makers.proofs.making.work.Given as goal

abbrev pub invariant-loop : goal.invariant-loop
invariant-loop g l = All (IsMade (λ k r. g.M.Fn.post l.make (k, tt) r)) l.all.items
