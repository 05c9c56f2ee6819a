-- What `replay` answers of an execution.
use Rattle.std.specs.Prelude.{◌≡◌, ℕ, Bool, true, false, List, ◌++◌, codes, min, Option, Some, None}
use Rattle.command_line.specs.declared.settings.Replay.{Replay}
use Rattle.execution_file.specs.Grammar.{IsExecution}
use Rattle.execution_file.specs.Recorded.{Recorded}
use Rattle.execution_scripts.specs.Findings.{IsFound, guest_in}
use Rattle.execution_scripts.specs.declared.checking.Checked.{Checked}
use Rattle.execution_views.specs.Moments.{bytes_at, moment_of}
use Rattle.execution_views.specs.declared.moment.Moment.{Moment}
use Rattle.execution_views.specs.declared.sights.Before.{Before}
use Rattle.execution_views.specs.declared.sights.HartStep.{HartStep}
use Rattle.hunt_table.specs.Text.{seen_lines}
use Rattle.hunt_table.specs.declared.seen_range.SeenRange.{SeenRange}
use Rattle.past_commands.specs.Answers.{all_bytes, number_line}
use Rattle.execution_commands.specs.Verdicts.{is_allowed}
use Rattle.past_commands.specs.Checks.{IsCheckAnswer}
use Rattle.past_commands.specs.Questions.{IsSeeing, ranges_seen}
use Rattle.past_commands.specs.declared.answer.Answer.{Answer}
use Rattle.program_files.specs.declared.exit_status.ExitStatus.TheVariants.{Done}
use Rattle.round_schedule.specs.Bounds.{AreWorkers}
use Rattle.report_lines.specs.Text.{hart_text}
use Rattle.trace.specs.Traced.{opening_at}

-- the step of a hart that a line asks for, if it does; no execution has a hart 255
abbrev pub step_asked : ℕ → Option ℕ → Option HartStep
step_asked hart None = None
step_asked hart (Some place) = Some (record { hart = min hart 255; number = place })

-- what so many bytes from an address on are to the hart of a moment
abbrev pub look_at : Checked → Moment → ℕ → ℕ → List ℕ
look_at c m first count = bytes_at c.execution.standing.events (opening_at c.opening.opening) c.order.0.items m first count

-- the moment before a step
abbrev pub moment_before : Checked → Before → Moment
moment_before c b = moment_of c.execution.standing.events c.order.0.items b.index

-- its position in the order of memory, the hart's lines, and a line for each of these ranges as the hart sees them there
abbrev pub before_text : ℕ → List SeenRange → Checked → Before → List ℕ
before_text hart ranges c b =
    number_line (codes "position ") (moment_before c b).position ++ hart_text hart b.hart ++ seen_lines ranges (all_bytes (look_at c (moment_before c b)) ranges)

abbrev pub found_text : ℕ → List SeenRange → Checked → Option Before → List ℕ
found_text hart ranges c None = codes "none\n"
found_text hart ranges c (Some b) = before_text hart ranges c b

-- the hart before its step, where nothing is wrong with the bytes that are to be seen
pub record IsStepAnswer (file : Recorded) (asked : Replay) (c : Checked) (a : Answer) : Type 0 where
  pub sound : IsSeeing asked file.image file.pages None
  pub text : a.text ≡ found_text asked.hart (ranges_seen asked file.image) c c.sights.before
  pub status : a.status ≡ Done

-- that where a step is asked for and RVWMO allows the execution, and else what `check` tells
abbrev pub IsAnswerBy : Option ℕ → Bool → Recorded → Replay → Checked → Answer → Type 0
IsAnswerBy None allowed file asked c a = IsCheckAnswer c a
IsAnswerBy (Some place) false file asked c a = IsCheckAnswer c a
IsAnswerBy (Some place) true file asked c a = IsStepAnswer file asked c a

abbrev pub IsCheckedAnswer : Recorded → Replay → Checked → Answer → Type 0
IsCheckedAnswer file asked c a = IsAnswerBy asked.place (is_allowed c.finding) file asked c a

-- the answer to what a line asks of the execution that a text says
pub record IsExecutionAnswer (text : List ℕ) (asked : Replay) (a : Answer) : Type 0 where
  pub file : Recorded
  pub says : IsExecution text file
  pub no_rounds : asked.round ≡ None
  pub workers : AreWorkers asked.workers
  pub checked : Checked
  pub found : IsFound (guest_in file) file (step_asked asked.hart asked.place) checked.finding checked
  pub answer : IsCheckedAnswer file asked checked a
