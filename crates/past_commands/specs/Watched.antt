-- What `watch` prints.
use Rattle.std.specs.Prelude.{◌≡◌, ◌<◌, ℕ, List, [], ◌∷◌, ◌++◌, codes, drop, length, slice_get, Option, Some, None, Result, IfErr, OnErr, OnOk}
use Rattle.host_io.specs.Taken.{BeganText}
use Rattle.host_io.specs.declared.error.RunError.{RunError}
use Rattle.past_commands.specs.Answers.{number_line}
use Rattle.past_commands.specs.declared.watched.Watched.{Watched}
use Rattle.past_commands.specs.declared.watched.Watched.TheVariants.{Hits, Refused}
use Rattle.program_files.specs.Failures.{IsCutOff}
use Rattle.program_files.specs.declared.exit_status.ExitStatus.{ExitStatus}
use Rattle.program_files.specs.declared.exit_status.ExitStatus.TheVariants.{Done}
use Rattle.report_lines.specs.Text.{event_text}
use Rattle.round_schedule.specs.declared.event.Event.{Event}
use Rattle.trace_events.specs.Located.{located_text}

-- the event's line, with the pc of its instruction if that is known
abbrev pub hit_line : Option ℕ → Event → List ℕ
hit_line None e = event_text e
hit_line (Some pc) e = located_text e pc

-- the pc of a number, if it is known
abbrev pub known : Option (Option ℕ) → Option ℕ
known None = None
known (Some pc) = pc

abbrev pub pc_at : List (Option ℕ) → ℕ → Option ℕ
pc_at pcs k = known (slice_get pcs k)

-- the lines of hits, of which these are the pcs
abbrev pub hits_lines : List Event → List (Option ℕ) → List ℕ
hits_lines [] pcs = []
hits_lines (e ∷ es) pcs = hit_line (pc_at pcs 0) e ++ hits_lines es (drop 1 pcs)

-- how many there are, and their lines
abbrev pub hits_text : List Event → List (Option ℕ) → List ℕ
hits_text es pcs = number_line (codes "hits ") (length es) ++ hits_lines es pcs

-- the hits or, if RVWMO doesn't allow the execution, what is told of it
abbrev pub watched_text : Watched → List ℕ
watched_text (Hits hits) = hits_text hits.events.items hits.pcs.items
watched_text (Refused a) = a.text

abbrev pub watched_status : Watched → ExitStatus
watched_status (Hits hits) = Done
watched_status (Refused a) = a.status

-- a call prints a text: with Ok all of it came after what was there, and the output didn't fail; else a beginning of it, for want of memory or
-- since the output failed
pub record Prints {X : Type 0} (text old : List ℕ) (failed : ℕ) (r : Result X RunError) (new : List ℕ) (failed_then : ℕ) : Type 0 where
  pub done : OnOk r (new ≡ old ++ text)
  pub counts : OnOk r (failed_then ≡ failed)
  pub begun : OnErr r (BeganText old new text)
  pub errors : IfErr r (IsCutOff (failed < failed_then))
