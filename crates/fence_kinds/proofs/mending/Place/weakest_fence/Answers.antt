use Rattle.std.proofs.Common.{below_more, subst}
use Rattle.std.specs.Bool.{OnFalse}
use Rattle.fence_kinds.specs.Kinds.{FailsStill, kind_at}
use Rattle.fence_kinds.proofs.mending.Place.weakest_fence.Goals as goal

pub loop-index-preserved : goal.loop-index-preserved
loop-index-preserved g c =
    let fails = FailsStill g.E.Executer.comes_to c.args.self.now in
    let now = subst (λ b. OnFalse b (fails c.kind_at-kind.result)) c.if-branch.false c.in_ok-mends.ensures.fails in
    below_more (λ j. fails (kind_at j)) c.loop-index.index c.loop-index.invariant (subst fails c.kind_at-kind.ensures now)
