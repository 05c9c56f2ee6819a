use Rattle.std.proofs.lemmas.Result.{on_ok_weaker}
use Rattle.round_steps.proofs.Turning.{shown_before}
use Rattle.round_steps.proofs.turn.NotingTurnVisitor.before_instruction.Goals as goal

pub returns : goal.returns
returns c =
    on_ok_weaker c.note_in_turn.result
    (λ added first turns along en ec k. (
      k.0,
      k.1,
      shown_before first.asked.now c.args.self.now.asked.now first.turns.now c.args.self.now.turns.now first.found.items c.args.self.now.found.items c.note_in_turn.new.found.items turns along c.args.hart.now c.tells-told.result
          c.begun_in-begun.result c.args.number c.args.count en ec k.0 k.1 k.2 c.tells-told.ensures c.begun_in-begun.ensures added,
    ))
    c.note_in_turn.ensures
