use Rattle.std.proofs.Common.{All, take}
use Rattle.all_checker.specs.Owning.{Misses}
use Rattle.all_checker.proofs.owning.is_unseen.Given as goal

abbrev pub invariant-loop-range : goal.invariant-loop-range
invariant-loop-range l = All (Misses l.own.number) (take l.range-index l.see)
