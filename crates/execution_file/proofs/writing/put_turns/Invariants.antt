use Rattle.std.proofs.Common.{◌≡◌, ◌++◌, drop, map}
use Rattle.execution_file.specs.Grammar.{hart_turn}
use Rattle.execution_file.specs.Formats.{spelled_list}
use Rattle.execution_file.specs.Views.{turn_view}
use Rattle.execution_file.proofs.writing.put_turns.Given as goal

abbrev pub invariant-loop-turn : goal.invariant-loop-turn
invariant-loop-turn l = l.text.items ++ spelled_list hart_turn (drop l.turn-index (map turn_view l.turns)) ≡ l.fn.text.items ++ spelled_list hart_turn (map turn_view l.turns)
