use Rattle.std.proofs.Common.{refl}
use Rattle.execution_file.specs.Grammar.{hart_turn}
use Rattle.execution_file.specs.Views.{turn_view}
use Rattle.execution_file.proofs.Written.{list_more}
use Rattle.execution_file.proofs.writing.put_turns.Goals as goal

pub loop-turn-preserved : goal.loop-turn-preserved
loop-turn-preserved c =
    list_more hart_turn turn_view c.args.turns.now c.loop-turn.turn-index _ _ c.loop-turn.text.items c.put.new.text.items c.put_turn.new.text.items _
    c.loop-turn-test.true refl c.in_ok-put.ensures c.in_ok-put_turn.ensures c.loop-turn.invariant
