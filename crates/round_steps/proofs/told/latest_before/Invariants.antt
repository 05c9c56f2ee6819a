use Rattle.std.proofs.Common.{◌≡◌, None, drop, filter}
use Rattle.round_steps.specs.declared.told.Told.{Told}
use Rattle.round_steps.specs.Points.{latest}
use Rattle.past_harts.specs.Points.{point_before}
use Rattle.round_steps.proofs.told.latest_before.Given as goal

abbrev pub invariant-loop-one : goal.invariant-loop-one
invariant-loop-one l = latest l.found (filter (λ (x : Told). point_before x.point l.here) (drop l.one-index l.told)) ≡ latest None (filter (λ (x : Told). point_before x.point l.here) l.told)
