use Rattle.std.proofs.Common.{◌≡◌, ◌++◌, map, take}
use Rattle.round_steps.specs.Points.{break_point}
use Rattle.round_steps.proofs.points.add_places.Given as goal

abbrev pub invariant-loop-place : goal.invariant-loop-place
invariant-loop-place l = l.told.items ≡ l.fn.told.items ++ map (break_point l.rounds) (take l.place-index l.places)
