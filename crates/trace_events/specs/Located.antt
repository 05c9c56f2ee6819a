-- The line of an event with the pc of its instruction.
use Rattle.std.specs.Prelude.{ℕ, ◌-◌, List, ◌++◌, length, take, codes}
use Rattle.round_schedule.specs.declared.event.Event.{Event}
use Rattle.report_lines.specs.Text.{event_text, hex}

-- a line without its end
abbrev pub without_end : List ℕ → List ℕ
without_end line = take (length line - 1) line

-- the event's line, which goes on with the pc in 16 digits
unfoldable pub located_text : Event → ℕ → List ℕ
located_text e pc = without_end (event_text e) ++ codes " pc " ++ hex 16 pc ++ codes "\n"
