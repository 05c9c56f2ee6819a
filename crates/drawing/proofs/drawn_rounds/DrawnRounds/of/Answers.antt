use Rattle.std.proofs.Common.{◌∙◌, sym}
use Rattle.drawing.proofs.DrawnSoFar.{none_drawn}
use Rattle.drawing.proofs.drawn_rounds.DrawnRounds.of.Goals as goal

pub returns-clause-drawn : goal.returns-clause-drawn
returns-clause-drawn c = λ m i.
    let run = c.in_ok-start.ensures.run in
    none_drawn m c.args.before c.args.last c.in_ok-start.start c.in_ok-ends.ends (run.rounds ∙ c.requires.opened) i (c.in_ok-ends.ensures m (sym i.harts ∙ run.harts))
