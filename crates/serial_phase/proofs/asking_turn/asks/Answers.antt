use Rattle.std.proofs.Common.{sym, ◌∙◌}
use Rattle.serial_phase.proofs.Turns.{asks_of}
use Rattle.serial_phase.proofs.asking_turn.asks.Goals as goal

pub returns-in-Some-decode : goal.returns-in-Some-decode
returns-in-Some-decode c =
    c.is_call_for_round.ensures
    ∙ asks_of c.args.pages.now.memory c.args.h.now c.in-Some.word c.in-Some-decode.i (sym c.fetch.ensures ∙ c.in-Some.is) (sym c.decode.ensures ∙ c.in-Some-decode.is)
