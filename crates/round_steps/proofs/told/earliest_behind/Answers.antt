use Rattle.std.proofs.Common.{◌∙◌, arith}
use Rattle.round_steps.specs.declared.told.Told.{Told}
use Rattle.past_harts.specs.Points.{point_before}
use Rattle.round_steps.proofs.PointsFound.{all_noted, sooner_noted}
use Rattle.round_steps.proofs.told.earliest_behind.Goals as goal

pub loop-one-preserved : goal.loop-one-preserved
loop-one-preserved c =
    sooner_noted (λ (x : Told). point_before c.args.here.now x.point) c.loop-one.found c.sooner_if-found.result c.args.told.now c.loop-one.one-index _ c.is_before.result (omega arith) c.is_before.ensures c.sooner_if-found.ensures
    ∙ c.loop-one.invariant

pub returns : goal.returns
returns c = all_noted (λ (x : Told). point_before c.args.here.now x.point) c.loop-one.found c.args.told.now c.loop-one.one-index (omega arith) ∙ c.loop-one.invariant
