-- A report in blocks: some of the lines of memory, or of those of the events, at a time.
use Rattle.std.specs.Prelude.{ℕ, ◌*◌, ◌/◌, List, ◌++◌, length, drop, take, codes}
use Rattle.std.specs.Fmt.{decimal}
use Rattle.round_schedule.specs.declared.event.Event.{Event}
use Rattle.hart_step.specs.declared.hart.Hart.{Hart}
use Rattle.report.specs.declared.piece.Piece.{Piece}
use Rattle.report.specs.declared.piece.Piece.TheVariants.{Pages, Events}
use Rattle.report.specs.Report.{events_text, harts_text, output_text}
use Rattle.report_lines.specs.Rows.{memory_rows}

-- the lines of so many pages from one on, or of those that are left
abbrev pub pages_text : List ℕ → ℕ → ℕ → List ℕ
pages_text bytes first count = memory_rows (4096 * first) (drop (4096 * first) bytes) (256 * count)

-- the lines of the block that begins with the event at an index
abbrev pub block_text : List Event → ℕ → List ℕ
block_text es start = events_text (take 1024 (drop start es))

-- the lines of a piece of memory or of the events
abbrev pub piece_text : List ℕ → List Event → Piece → List ℕ
piece_text bytes es (Pages first count) = pages_text bytes first count
piece_text bytes es (Events start) = block_text es start

-- what stands before the lines of memory
unfoldable pub start_text : ℕ → List Hart → List ℕ → List ℕ
start_text rounds harts bytes =
    codes "rounds " ++ decimal rounds ++ codes "\n"
    ++ harts_text 0 harts
    ++ (codes "memory " ++ decimal (length bytes / 4096) ++ codes "\n")

-- what stands between the lines of memory and those of so many events
unfoldable pub middle_text : List ℕ → ℕ → List ℕ
middle_text output events = output_text output ++ (codes "trace " ++ decimal events ++ codes "\n")

-- the lines of memory, the output and the events
unfoldable pub body_text : List ℕ → List ℕ → List Event → List ℕ
body_text bytes output es = memory_rows 0 bytes (length bytes / 16) ++ middle_text output (length es) ++ events_text es
