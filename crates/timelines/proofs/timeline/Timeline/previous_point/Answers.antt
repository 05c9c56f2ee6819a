use Rattle.std.proofs.Common.{◌≡◌, subst, sym, ◌∙◌, arith}
use Rattle.machine.specs.Untraced.{IsUntraced}
use Rattle.timelines.specs.Timelines.{Line}
use Rattle.round_steps.proofs.PointsFound.{found_between, none_at_all, none_between}
use Rattle.timelines.proofs.timeline.Timeline.previous_point.Goals as goal

pub returns-in-Some-clause-previous : goal.returns-in-Some-clause-previous
returns-in-Some-clause-previous g c = λ m is.
    let inv = c.loop-end.invariant in
    let there : IsUntraced m c.loop-end.self.start = subst (λ (l : Line). IsUntraced m l.start) (sym inv.0) is in
    found_between c.args.telling.now.asked c.args.telling.now.watches.items m c.args.here.now _ _ c.loop-end.end (omega arith)
    (sym c.in-Some.is ∙ c.in_ok-found.ensures.previous m there)
    ∙ sym (inv.3 m is)

pub loop-end-preserved : goal.loop-end-preserved
loop-end-preserved g c =
    let inv = c.loop-end.invariant in (
      c.in_ok-found.ensures.stays ∙ inv.0,
      omega (arith, inv.1),
      omega arith,
      λ m is.
          let there : IsUntraced m c.loop-end.self.start = subst (λ (l : Line). IsUntraced m l.start) (sym inv.0) is in
          inv.3 m is ∙ none_between c.args.telling.now.asked c.args.telling.now.watches.items m c.args.here.now _ c.loop-end.end (omega arith) (sym c.in_default.is ∙ c.in_ok-found.ensures.previous m there),
    )

pub returns-clause-previous : goal.returns-clause-previous
returns-clause-previous g c = λ m is.
    let z : c.loop-end.end ≡ 0 = omega arith in
    none_at_all c.args.telling.now.asked c.args.telling.now.watches.items m c.args.here.now c.loop-end.end z ∙ sym (c.loop-end.invariant.3 m is)
