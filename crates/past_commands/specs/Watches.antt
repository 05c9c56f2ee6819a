-- Which accesses `watch` finds.
use Rattle.std.specs.Prelude.{◌≡◌, ℕ, ◌-◌, ◌^◌, Bool, true, false, List, [], ◌∷◌, ◌++◌, filter, map, min, slice_get, slice_index, unwrap_or, Option, Some, None}
use Rattle.command_line.specs.declared.settings.Bytes.{Bytes}
use Rattle.command_line.specs.declared.settings.Watch.{Watch}
use Rattle.run_events.specs.Pcs.{pc_before}
use Rattle.execution_file.specs.Grammar.{IsExecution}
use Rattle.execution_file.specs.Recorded.{Recorded as Executed}
use Rattle.execution_scripts.specs.Findings.{IsFound, guest_in}
use Rattle.execution_scripts.specs.declared.checking.Checked.{Checked}
use Rattle.execution_views.specs.Touched.{positions_sought}
use Rattle.machine.specs.Machine.{Running}
use Rattle.program_files.specs.Naming.{first_missing, objects_in}
use Rattle.pages.specs.declared.access.Range.{Range}
use Rattle.execution_commands.specs.Verdicts.{is_allowed}
use Rattle.past_commands.specs.Checks.{IsCheckAnswer}
use Rattle.past_commands.specs.Past.{HoldsPast}
use Rattle.past_commands.specs.declared.past.Past.{Past}
use Rattle.past_commands.specs.declared.past.Past.TheVariants.{Execution, Recording}
use Rattle.past_commands.specs.declared.watched.Hits.{Hits as Found}
use Rattle.past_commands.specs.declared.watched.Watched.{Watched}
use Rattle.past_commands.specs.declared.watched.Watched.TheVariants.{Hits, Refused}
use Rattle.program_files.specs.Relations.{FileRelations}
use Rattle.recording.specs.Recorded.{Recorded}
use Rattle.run_events.specs.Hits.{is_chosen, of_rounds}
use Rattle.round_schedule.specs.Bounds.{AreWorkers}
use Rattle.replayer.specs.Replayed.{IsPlanFor, hits_of, start_of}
use Rattle.round_planner.specs.Quotas.{Planned}
use Rattle.round_schedule.specs.Positions.{event}
use Rattle.round_schedule.specs.declared.event.Event.{Event}

-- ---- bytes

-- the bytes from an address on, where the line says one, in decimal or not
abbrev pub at_address : Option ℕ → ℕ → Bool → List Bytes
at_address None length is_decimal = []
at_address (Some address) length is_decimal = record { address = address; length = length; is_decimal = is_decimal } ∷ []

-- the names of the objects that are watched
abbrev pub names_watched : Watch → List (List ℕ)
names_watched asked = map (λ s. s.now) asked.objects.items

-- the bytes that are watched: those that are named by addresses, and those of the image's objects
abbrev pub watched_bytes : List ℕ → Watch → List Bytes
watched_bytes image asked = (asked.more.items ++ at_address asked.address asked.length asked.is_decimal) ++ objects_in image (names_watched asked)

abbrev pub as_range : Bytes → Range
as_range b = record { start = b.address; len = b.length }

abbrev pub ranges_watched : List ℕ → Watch → List Range
ranges_watched image asked = map as_range (watched_bytes image asked)

-- ---- of a recording

-- the accesses to some ranges: in the rounds, of the hart, and of the kind that the line says
abbrev pub hits_in : Watch → Recorded → Running → List Range → List Event
hits_in asked r m ranges =
    filter (is_chosen asked.hart asked.stores) (of_rounds (unwrap_or asked.from 0) (unwrap_or asked.to (2 ^ 32 - 1)) (hits_of r m ranges))

-- the pcs of their instructions, with --pc
abbrev pub pcs_told : Bool → Recorded → Running → List Event → List (Option ℕ)
pcs_told true r m events = map (pc_before r.rounds m) events
pcs_told false r m events = []

-- these are the accesses of the run from m to these bytes
pub record AreRunHits (asked : Watch) (named : List Bytes) (r : Recorded) (m : Running) (hits : Found) : Type 0 where
  pub events : hits.events.items ≡ hits_in asked r m (map as_range named)
  pub pcs : hits.pcs.items ≡ pcs_told asked.pc r m hits.events.items

-- and these the hits of a recording's run in all that is watched, where each name is that of one object of the image
pub record IsRunWatch (r : Recorded) (asked : Watch) (hits : Found) : Type 0 where
  pub are_workers : AreWorkers asked.workers
  pub named : first_missing r.image (names_watched asked) ≡ None
  pub plan : Planned
  pub planned : IsPlanFor r plan
  pub found : AreRunHits asked (watched_bytes r.image asked) r (start_of r plan) hits

abbrev pub IsRecordingWatch : Recorded → Watch → Watched → Type 0
IsRecordingWatch r asked (Hits hits) = IsRunWatch r asked hits
IsRecordingWatch r asked (Refused a) = ⊥

-- ---- of an execution

-- the event of the operation at a position of the order; the position stands in place of the round
abbrev pub event_there : List Event → List ℕ → ℕ → Event
event_there t g p = record (event t (slice_index g p)) { round = min p (2 ^ 32 - 1) }

-- the pc of its instruction
abbrev pub pc_there : List ℕ → List ℕ → ℕ → Option ℕ
pc_there g pcs p = slice_get pcs (slice_index g p)

abbrev pub pcs_there : Bool → List ℕ → List ℕ → List ℕ → List (Option ℕ)
pcs_there true g pcs positions = map (pc_there g pcs) positions
pcs_there false g pcs positions = []

-- these are the operations at some positions
pub record AreExecutionHits (with_pcs : Bool) (c : Checked) (positions : List ℕ) (hits : Found) : Type 0 where
  pub events : hits.events.items ≡ map (event_there c.execution.standing.events c.order.0.items) positions
  pub pcs : hits.pcs.items ≡ pcs_there with_pcs c.order.0.items c.sights.pcs.items positions

-- and these the operations that touch what is watched, of the hart and of the kind that the line says, where each name is that of one
-- object of the image
pub record IsFoundWatch (file : Executed) (asked : Watch) (c : Checked) (hits : Found) : Type 0 where
  pub named : first_missing file.image (names_watched asked) ≡ None
  pub found : AreExecutionHits asked.pc c
      (positions_sought c.execution.standing.events c.order.0.items (ranges_watched file.image asked) asked.hart asked.stores) hits

-- where RVWMO allows the execution, and else what `check` tells
abbrev pub IsWatchBy : Bool → Executed → Watch → Checked → Watched → Type 0
IsWatchBy true file asked c (Hits hits) = IsFoundWatch file asked c hits
IsWatchBy true file asked c (Refused a) = ⊥
IsWatchBy false file asked c (Hits hits) = ⊥
IsWatchBy false file asked c (Refused a) = IsCheckAnswer c a

abbrev pub IsCheckedWatch : Executed → Watch → Checked → Watched → Type 0
IsCheckedWatch file asked c w = IsWatchBy (is_allowed c.finding) file asked c w

-- what comes of watching the execution that a text says
pub record IsExecutionWatch (text : List ℕ) (asked : Watch) (w : Watched) : Type 0 where
  pub file : Executed
  pub says : IsExecution text file
  pub no_from : asked.from ≡ None
  pub no_to : asked.to ≡ None
  pub workers : AreWorkers asked.workers
  pub checked : Checked
  pub found : IsFound (guest_in file) file None checked.finding checked
  pub watch : IsCheckedWatch file asked checked w

-- ---- of what a file holds

abbrev pub IsWatch : Past → Watch → Watched → Type 0
IsWatch (Recording r) asked w = IsRecordingWatch r asked w
IsWatch (Execution text) asked w = IsExecutionWatch text.items asked w

pub record AskedWatch (files : FileRelations) (asked : Watch) : Type 0 where
  pub past : Past
  pub holds : HoldsPast files asked.recording.now past
  pub watched : Watched
  pub is_watch : IsWatch past asked watched
