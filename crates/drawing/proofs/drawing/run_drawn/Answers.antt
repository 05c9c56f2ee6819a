use Rattle.std.proofs.Common.{ℕ, ◌∙◌, arith, refl, rules, subst, sym}
use Rattle.machine.specs.Walks.{HasSeenAll}
use Rattle.machine.proofs.Walked.{seen_by}
use Rattle.drawing.specs.Drawn.{before_drawn, last_drawn}
use Rattle.drawing.specs.DrawnRounds.{HasDrawn, HasDrawnAll}
use Rattle.drawing.proofs.DrawnSoFar.{all_drawn, drawn_by, none_held}
use Rattle.drawing.proofs.drawing.run_drawn.Goals as goal

pub run_visited-requires-clause-rounds : goal.run_visited-requires-clause-rounds
run_visited-requires-clause-rounds g c = λ lifetimes within. omega (arith, c.requires.opened)

pub run_visited-requires-clause-known : goal.run_visited-requires-clause-known
run_visited-requires-clause-known g c = λ lifetimes within u i.
    let d = c.in_ok-drawn.drawn in
    let e = c.in_ok-drawn.ensures in (
      refl,
      refl,
      c.requires.known u,
      none_held d u (i.rounds ∙ c.requires.opened)
          (λ m j. subst (λ (n : ℕ). HasDrawn m n d.last d.start d.ends 0) (sym e.before) (subst (λ (n : ℕ). HasDrawn m c.before_drawn-before.result n d.start d.ends 0) (sym e.last) (e.drawn m j))),
    )

pub returns-clause-drawn : goal.returns-clause-drawn
returns-clause-drawn g c =
    let d = c.in_ok-drawn in
    let rounds = c.args.settings.now.rounds in
    let before = before_drawn rounds c.args.view.now in
    let last = last_drawn rounds c.args.view.now in
    let seen = c.in_ok-run_visited.ensures.known in
    let all = seen.2 in
    let same = all.known.1 in
    let now = c.run_visited.new.visitor.drawn.now in
    let held : HasDrawnAll rounds before last c.args.machine.now c.run_visited.new.self now =
    all_drawn rounds before last c.args.machine.now c.run_visited.new.self d.drawn now seen.0 all.shown
    (d.ensures.before ∙ c.before_drawn-before.ensures.before) (d.ensures.last ∙ c.last_drawn-last.ensures.last) d.ensures.start seen.1 c.in_ok-run_visited.ensures.done all.known.3 all.most all.all in
    drawn_by rounds before last c.args.machine.now c.run_visited.new.self now _ held (search rules)

pub returns-clause-seen : goal.returns-clause-seen
returns-clause-seen g c =
    let seen = c.in_ok-run_visited.ensures.known in
    let all = seen.2 in
    let v = c.run_visited.new.visitor.visitor.now in
    let whole : HasSeenAll g.V.Visitor.knows c.args.visitor.now v seen.0 c.args.settings.now.rounds =
    record { shown = all.shown; most = all.most; known = all.known.2; all = all.all } in
    let same = all.known.0 in (seen.0, seen.1, seen_by g.V.Visitor.knows c.args.settings.now.rounds seen.0 c.args.visitor.now v _ whole (search rules))
