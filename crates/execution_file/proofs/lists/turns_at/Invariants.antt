use Rattle.std.proofs.Common.{◌≡◌, ◌≤◌, ◌-◌, length, map}
use Rattle.execution_file.specs.Grammar.{hart_turn}
use Rattle.execution_file.specs.Formats.{taken_list}
use Rattle.execution_file.specs.Views.{turn_view}
use Rattle.execution_file.proofs.Loops.{with_front}
use Rattle.execution_file.proofs.lists.turns_at.Given as goal

abbrev pub invariant-loop : goal.invariant-loop
invariant-loop l = (l.counter ≤ length l.bytes) × (with_front (map turn_view l.turns.items) (taken_list (length l.bytes - l.counter) hart_turn l.rest) ≡ taken_list (length l.bytes) hart_turn l.bytes)
