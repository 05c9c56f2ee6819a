use Rattle.std.proofs.Common.{◌∙◌, arith}
use Rattle.round_steps.specs.declared.told.Told.{Told}
use Rattle.past_harts.specs.Points.{point_before}
use Rattle.round_steps.proofs.PointsFound.{all_looked_at, later_noted}
use Rattle.round_steps.proofs.told.latest_before.Goals as goal

pub loop-one-preserved : goal.loop-one-preserved
loop-one-preserved c =
    later_noted (λ (x : Told). point_before x.point c.args.here.now) c.loop-one.found c.later_if-found.result c.args.told.now c.loop-one.one-index _ c.is_before.result (omega arith) c.is_before.ensures c.later_if-found.ensures
    ∙ c.loop-one.invariant

pub returns : goal.returns
returns c = all_looked_at (λ (x : Told). point_before x.point c.args.here.now) c.loop-one.found c.args.told.now c.loop-one.one-index (omega arith) ∙ c.loop-one.invariant
