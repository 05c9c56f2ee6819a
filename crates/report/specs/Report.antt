-- The report of a run, as text.
use Rattle.std.specs.Prelude.{ℕ, zero, suc, ◌+◌, ◌/◌, List, [], ◌∷◌, ◌++◌, length, drop, take, codes}
use Rattle.std.specs.Fmt.{decimal}
use Rattle.round_schedule.specs.declared.event.Event.{Event}
use Rattle.round_schedule.specs.Schedule.{State}
use Rattle.hart_step.specs.declared.hart.Hart.{Hart}
use Rattle.hart_step.specs.Console.{ConsoleState}
use Rattle.report_lines.specs.Rows.{memory_rows}
use Rattle.report_lines.specs.Text.{bytes_text, event_text, hart_text}

-- `memory` with the number of pages, and the lines of all bytes
unfoldable pub memory_text : List ℕ → List ℕ
memory_text bs = codes "memory " ++ decimal (length bs / 4096) ++ codes "\n" ++ memory_rows 0 bs (length bs / 16)

-- n lines of output, 32 bytes each
unfoldable pub output_rows : List ℕ → ℕ → List ℕ
output_rows bs zero = []
output_rows bs (suc n) = bytes_text (take 32 bs) ++ codes "\n" ++ output_rows (drop 32 bs) n

unfoldable pub output_text : List ℕ → List ℕ
output_text bs = codes "output " ++ decimal (length bs) ++ codes "\n" ++ output_rows bs ((length bs + 31) / 32)

-- the lines of harts i, i + 1, ..
abbrev pub harts_text : ℕ → List Hart → List ℕ
harts_text i [] = []
harts_text i (h ∷ hs) = hart_text i h ++ harts_text (i + 1) hs

abbrev pub events_text : List Event → List ℕ
events_text [] = []
events_text (e ∷ es) = event_text e ++ events_text es

unfoldable pub trace_text : List Event → List ℕ
trace_text es = codes "trace " ++ decimal (length es) ++ codes "\n" ++ events_text es

-- what stands before the events
unfoldable pub head_text : ℕ → List Hart → List ℕ → List ℕ → List ℕ
head_text rounds harts bytes output =
    codes "rounds " ++ decimal rounds ++ codes "\n"
    ++ harts_text 0 harts
    ++ memory_text bytes
    ++ output_text output

-- the report of so many rounds, these harts, these bytes of memory, this output and these events
unfoldable pub report_text : ℕ → List Hart → List ℕ → List ℕ → List Event → List ℕ
report_text rounds harts bytes output events = head_text rounds harts bytes output ++ trace_text events ++ codes "end\n"

-- the report of a state of a run
abbrev pub report_of : State Hart ConsoleState → List ℕ
report_of s = report_text s.rounds s.harts s.bytes s.console.output s.trace
