use Rattle.std.proofs.Common.{All}
use Rattle.endings_finder.specs.Fences.{IsToldFence}
use Rattle.endings_finder.proofs.fences.needs_of.Given as goal

abbrev pub invariant-loop-pc : goal.invariant-loop-pc
invariant-loop-pc g l = All (IsToldFence l.reach.steps l.guest.program.now l.guest.scripted.input.now l.guest.scripted.harts l.guest.ranges.now) l.needs.items
