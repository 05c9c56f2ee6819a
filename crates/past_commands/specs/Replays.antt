-- What `replay` answers.
use Rattle.std.specs.Prelude.{◌≡◌, ℕ, List, Option, Some, None}
use Rattle.command_line.specs.declared.settings.Replay.{Replay}
use Rattle.past_commands.specs.Answers.{IsTold, told_text, verdict_status, verdict_text}
use Rattle.past_commands.specs.Executions.{IsExecutionAnswer}
use Rattle.past_commands.specs.Past.{HoldsPast}
use Rattle.past_commands.specs.Questions.{IsSeeing, question_of, ranges_seen}
use Rattle.past_commands.specs.declared.answer.Answer.{Answer}
use Rattle.past_commands.specs.declared.past.Past.{Past}
use Rattle.past_commands.specs.declared.past.Past.TheVariants.{Execution, Recording}
use Rattle.past_commands.specs.declared.question.Question.{Question}
use Rattle.past_commands.specs.declared.telling.Told.{Told}
use Rattle.program_files.specs.declared.exit_status.ExitStatus.TheVariants.{Done}
use Rattle.program_files.specs.Relations.{FileRelations}
use Rattle.recording.specs.Recorded.{Recorded}
use Rattle.round_schedule.specs.Bounds.{AreWorkers}
use Rattle.replayer.specs.Replayed.{IsPlanFor, IsVerdict, start_of}
use Rattle.replayer.specs.declared.verdict.Verdict.{Verdict}
use Rattle.round_planner.specs.Quotas.{Planned}

-- whether the run of a recording is the recorded one
pub record IsVerdictAnswer (workers : ℕ) (r : Recorded) (a : Answer) : Type 0 where
  pub are_workers : AreWorkers workers
  pub plan : Planned
  pub planned : IsPlanFor r plan
  pub verdict : Verdict
  pub is_verdict : IsVerdict r (start_of r plan) verdict
  pub text : a.text ≡ verdict_text verdict
  pub status : a.status ≡ verdict_status verdict

-- the answer to a question about a hart's past, where nothing is wrong with the bytes that are to be seen
pub record IsHartAnswer (question : Question) (r : Recorded) (asked : Replay) (a : Answer) : Type 0 where
  pub are_workers : AreWorkers asked.workers
  pub sound : IsSeeing asked r.image r.pages None
  pub plan : Planned
  pub planned : IsPlanFor r plan
  pub told : Told
  pub is_told : IsTold asked.hart asked.count r.rounds (start_of r plan) question told
  pub text : a.text ≡ told_text asked.hart (ranges_seen asked r.image) told
  pub status : a.status ≡ Done

abbrev pub IsAnswerTo : Option Question → Recorded → Replay → Answer → Type 0
IsAnswerTo None r asked a = IsVerdictAnswer asked.workers r a
IsAnswerTo (Some question) r asked a = IsHartAnswer question r asked a

-- the answer to what a line asks of a recording
abbrev pub IsRecordingAnswer : Recorded → Replay → Answer → Type 0
IsRecordingAnswer r asked a = IsAnswerTo (question_of asked.place asked.round asked.how_many) r asked a

-- and to what it asks of what a file holds
abbrev pub IsReplayAnswer : Past → Replay → Answer → Type 0
IsReplayAnswer (Recording r) asked a = IsRecordingAnswer r asked a
IsReplayAnswer (Execution text) asked a = IsExecutionAnswer text.items asked a

pub record AskedReplay (files : FileRelations) (asked : Replay) : Type 0 where
  pub past : Past
  pub holds : HoldsPast files asked.recording.now past
  pub answer : Answer
  pub is_answer : IsReplayAnswer past asked answer
