use Rattle.std.proofs.Common.{◌≡◌, map, take}
use Rattle.hart_step.specs.declared.hart.Hart.{Hart}
use Rattle.ending_judge.specs.JudgedEndings.{stop_of}
use Rattle.ending_judge.proofs.ends.ends_as.Given as goal

abbrev pub invariant-loop-index : goal.invariant-loop-index
invariant-loop-index l = map stop_of l.ends.items ≡ map (λ (h : Hart). h.stop) (take l.index l.harts)
