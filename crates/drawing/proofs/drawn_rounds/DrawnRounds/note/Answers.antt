use Rattle.std.proofs.lemmas.Result.{on_ok_weaker}
use Rattle.drawing.proofs.DrawnSoFar.{noted}
use Rattle.drawing.proofs.drawn_rounds.DrawnRounds.note.Goals as goal

pub returns-clause-drawn : goal.returns-clause-drawn
returns-clause-drawn c =
    let one = c.note_start.ensures in
    let start = c.in_ok-note_start.ensures.start in
    let two = c.note_ends.ensures in
    on_ok_weaker c.note_ends.result
    (λ ended m done at i h. noted m done c.args.self.now c.note_start.new.self c.note_ends.new.self c.args.machine.now one.last one.ends two.start start ended at i h) two.ends
