-- The texts of what a run has come to.
use Rattle.std.specs.Prelude.{ℕ, List}
use Rattle.round_schedule.specs.declared.event.Event.{Event}
use Rattle.report.specs.declared.run_state.RunState.{RunState}
use Rattle.report.specs.Blocks.{body_text, start_text}
use Rattle.report.specs.Report.{head_text, report_text}
use Rattle.report.specs.Shown.{state_text, summary_text}

-- what stands before the events
abbrev pub head_of : RunState → List ℕ
head_of s = head_text s.rounds s.harts.now s.pages.now.memory.bytes s.output.now

-- what stands before the lines of memory
abbrev pub start_of : RunState → List ℕ
start_of s = start_text s.rounds s.harts.now s.pages.now.memory.bytes

-- the lines of memory, the output and these events
abbrev pub body_of : RunState → List Event → List ℕ
body_of s events = body_text s.pages.now.memory.bytes s.output.now events

-- its report with these events
abbrev pub report_with : RunState → List Event → List ℕ
report_with s events = report_text s.rounds s.harts.now s.pages.now.memory.bytes s.output.now events

-- its report without events
abbrev pub state_of : RunState → List ℕ
state_of s = state_text s.rounds s.harts.now s.pages.now.memory.bytes s.output.now

-- the lines of its harts, and how many bytes of output there are
abbrev pub summary_of : RunState → List ℕ
summary_of s = summary_text s.rounds s.harts.now s.output.now
