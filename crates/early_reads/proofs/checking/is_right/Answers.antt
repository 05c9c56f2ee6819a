use Rattle.std.proofs.Common.{arith}
use Rattle.own_moves.specs.Owned.{owns_of}
use Rattle.early_reads.specs.declared.early_point.EarlyPoint.{EarlyPoint}
use Rattle.early_reads.specs.declared.early_point.LateKinds.{LateKinds}
use Rattle.early_reads.specs.Checking.{IsRightAt}
use Rattle.early_reads.proofs.Points.{right_all}
use Rattle.early_reads.proofs.StoresListed.{element_more}
use Rattle.early_reads.proofs.checking.is_right.Goals as goal

pub loop-index-preserved : goal.loop-index-preserved
loop-index-preserved c =
    element_more (λ (p : EarlyPoint). (late : LateKinds) → IsRightAt c.args.points.now (owns_of c.args.owned.now) c.args.pages.now.memory c.args.hart p late)
    c.args.points.now c.loop-index.index c.index-points-index.result c.loop-index-test.true c.index-points-index.is (c.holds_at.ensures c.if-not-holds_at.false) c.loop-index.invariant

pub returns : goal.returns
returns c = λ held.
    right_all c.args.points.now (owns_of c.args.owned.now) c.args.pages.now.memory c.args.hart (λ k d l late. c.loop-index.invariant k d (omega arith) late)
