use Rattle.drawing.proofs.DrawnSoFar.{held_next}
use Rattle.drawing.proofs.drawn_rounds.DrawingVisitor.after_round.Goals as goal

pub after_round-requires : goal.after_round-requires
after_round-requires g c = let r = c.requires in (r.0.visitor.now, r.1, r.2, r.3, r.4, r.5.2, r.6)

pub returns-clause-known : goal.returns-clause-known
returns-clause-known g c = λ first start rounds done few h d. (
  h.0,
  h.1,
  c.in_ok-after_round.ensures.known first.visitor.now start rounds done few h.2 d,
  held_next first.drawn.now c.args.self.now.drawn.now c.note.new.self start c.args.machine.now done d c.note.ensures.before c.note.ensures.last c.in_ok-note.ensures.drawn h.3,
)
