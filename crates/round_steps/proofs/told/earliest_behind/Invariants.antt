use Rattle.std.proofs.Common.{◌≡◌, None, drop, filter}
use Rattle.round_steps.specs.declared.told.Told.{Told}
use Rattle.round_steps.specs.Points.{earliest}
use Rattle.past_harts.specs.Points.{point_before}
use Rattle.round_steps.proofs.told.earliest_behind.Given as goal

abbrev pub invariant-loop-one : goal.invariant-loop-one
invariant-loop-one l = earliest l.found (filter (λ (x : Told). point_before l.here x.point) (drop l.one-index l.told)) ≡ earliest None (filter (λ (x : Told). point_before l.here x.point) l.told)
