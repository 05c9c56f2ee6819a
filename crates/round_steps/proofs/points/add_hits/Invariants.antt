use Rattle.std.proofs.Common.{◌≡◌, ◌++◌, map, take}
use Rattle.round_steps.specs.Points.{hit_point}
use Rattle.round_steps.proofs.points.add_hits.Given as goal

abbrev pub invariant-loop-hit : goal.invariant-loop-hit
invariant-loop-hit l = l.told.items ≡ l.fn.told.items ++ map (hit_point l.way l.rounds l.harts) (take l.hit-index l.hits)
