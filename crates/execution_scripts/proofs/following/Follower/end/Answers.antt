use Rattle.std.proofs.Common.{inl, inr, refl, subst}
use Rattle.std.proofs.lemmas.Result.{on_ok_weaker, IfErr-weaker}
use Rattle.execution_file.specs.Recorded.{HartDeeds}
use Rattle.execution_scripts.specs.Following.{IsEnd, line_of}
use Rattle.execution_scripts.proofs.Going.{at, within_stopped}
use Rattle.execution_scripts.proofs.Loops.{on_fault_by}
use Rattle.execution_scripts.proofs.following.Follower.end.Goals as goal

pub returns-then-part-eq0-clause-ended : goal.returns-then-part-eq0-clause-ended
returns-then-part-eq0-clause-ended c = λ k n o w l line none.
    (o, w, subst (λ (y : HartDeeds). IsEnd k.image y n c.args.hart (at c.args.self.now) (at c.args.self.now)) line (inl (c.if-part-eq0.true, none c.if-part-eq0.true, refl)))

pub returns-clause-ended : goal.returns-clause-ended
returns-clause-ended c =
    on_ok_weaker c.stop.result (λ u k n o w l line none.
    let s = u k n o l in (
      s.0,
      within_stopped k.lines k.image c.args.hart (at c.args.self.now) (at c.stop.new.self) s.1.stops w,
      subst (λ (y : HartDeeds). IsEnd k.image y n c.args.hart (at c.args.self.now) (at c.stop.new.self)) line (inr (c.if-part-eq0.false, s.1)),
    )) c.stop.ensures.stops

pub returns-clause-misfit : goal.returns-clause-misfit
returns-clause-misfit c =
    IfErr-weaker c.stop.result _ _ (λ halt v. on_fault_by halt _ _ v (λ x u k n o l line all. u k n o l line all c.if-part-eq0.false)) c.stop.ensures.misfit
