use Rattle.std.proofs.Common.{inr, subst}
use Rattle.std.specs.Bool.{OnTrue}
use Rattle.fence_kinds.specs.Kinds.{DoesFail, IsFenced}
use Rattle.fence_kinds.proofs.Mended.{fails_so, fenced_so, mends_so}
use Rattle.fence_kinds.proofs.mending.Place.mends.Goals as goal

pub returns-then-branch-clause-fails : goal.returns-then-branch-clause-fails
returns-then-branch-clause-fails g c =
    let a = c.assuming-fenced.ensures in
    let fenced : IsFenced c.args.self.now c.args.kind c.assuming-fenced.result =
    fenced_so c.args.self.now c.args.kind c.assuming-fenced.result c.pc.result c.deref.result.now c.in_ok-fences.fences.items a.opening a.seed a.reach a.ranges a.fences c.deref.ensures.value c.in_ok-fences.ensures c.pc.ensures in
    record { guest = c.assuming-fenced.result; fenced = fenced; fails = inr (subst (λ b. OnTrue b (DoesFail (g.E.Executer.comes_to c.assuming-fenced.result) c.args.self.now.runs.now)) c.if-branch.true c.in_ok-do_founds_fail.ensures) }

pub returns-clause-mends : goal.returns-clause-mends
returns-clause-mends g c =
    let a = c.assuming-fenced.ensures in
    let fenced : IsFenced c.args.self.now c.args.kind c.assuming-fenced.result =
    fenced_so c.args.self.now c.args.kind c.assuming-fenced.result c.pc.result c.deref.result.now c.in_ok-fences.fences.items a.opening a.seed a.reach a.ranges a.fences c.deref.ensures.value c.in_ok-fences.ensures c.pc.ensures in
    mends_so c.in_ok-fails.fails g.E.Executer.comes_to c.args.self.now c.args.kind c.assuming-fenced.result fenced c.in_ok-fails.ensures.none

pub returns-clause-fails : goal.returns-clause-fails
returns-clause-fails g c =
    let a = c.assuming-fenced.ensures in
    let fenced : IsFenced c.args.self.now c.args.kind c.assuming-fenced.result =
    fenced_so c.args.self.now c.args.kind c.assuming-fenced.result c.pc.result c.deref.result.now c.in_ok-fences.fences.items a.opening a.seed a.reach a.ranges a.fences c.deref.ensures.value c.in_ok-fences.ensures c.pc.ensures in
    fails_so c.in_ok-fails.fails g.E.Executer.comes_to c.args.self.now c.args.kind c.assuming-fenced.result fenced c.in_ok-fails.ensures.fails
