-- The picture of a run, and its trace for viewers of traces.
use Rattle.std.specs.Prelude.{◌≡◌, ℕ, ◌-◌, ◌==◌, if◌then◌else◌, min, List, map, slice_index, Option, None}
use Rattle.round_planner.specs.Quotas.{Planned}
use Rattle.round_schedule.specs.declared.event.Event.{Event}
use Rattle.round_schedule.specs.Accesses.{address_of, bytes_of}
use Rattle.elf_loader.specs.Offsets.{NamedOffset, object_offset}
use Rattle.picture.specs.Picture.{Drawn, picture_text}
use Rattle.picture.specs.Rows.{events_shown}
use Rattle.picture.specs.Titles.{Told}
use Rattle.picture.specs.declared.view.View.{View}
use Rattle.trace_events.specs.TraceEvents.{trace_events_text}
use Rattle.machine.specs.Machine.{Running, after_rounds, opening}
use Rattle.machine.specs.Runs.{after_run}
use Rattle.round_planner.specs.Settings.{IsPlan, image_for}
use Rattle.round_planner.specs.declared.settings.Format.{Format}
use Rattle.round_planner.specs.declared.settings.Format.TheVariants.{Elf, Flat}
use Rattle.round_planner.specs.declared.settings.Settings.{Settings}
use Rattle.run_events.specs.Pcs.{pc_before}

-- ---- what is drawn

-- the last round that is drawn, and how many rounds come before the first one
abbrev pub last_drawn : ℕ → View → ℕ
last_drawn rounds v = min v.to rounds

abbrev pub before_drawn : ℕ → View → ℕ
before_drawn rounds v = min (v.from - 1) (last_drawn rounds v)

-- the object that an access touches, by its first byte: where the file is ELF, the one that its symbol table names
abbrev pub object_touched : Format → List ℕ → Event → Option NamedOffset
object_touched Elf file e = if bytes_of e.access == 0 then None else object_offset file (address_of e.access)
object_touched Flat file e = None

-- what is told of an event beside the trace: the pc of its instruction, and that object
abbrev pub told_by : Format → List ℕ → Event → Option ℕ → Told
told_by format file e pc = record { pc = pc; object = object_touched format file e }

abbrev pub told_of : Settings → List ℕ → Running → Event → Told
told_of s file m e = told_by s.format file e (pc_before s.rounds m e)

-- the run of m, which is the machine before the first round: its trace, and its harts before the first round that is drawn and after the
-- last one
abbrev pub drawn_by : Settings → List ℕ → Running → View → List Event → Drawn
drawn_by s file m v t = record {
  trace = t;
  opening = slice_index m.opening;
  starts = (after_rounds (before_drawn s.rounds v) m).state.harts;
  ends = (after_rounds (last_drawn s.rounds v) m).state.harts;
  told = map (told_of s file m) (events_shown v t);
}

abbrev pub picture_of : Settings → List ℕ → Running → View → List ℕ
picture_of s file m v = picture_text (drawn_by s file m v (after_rounds s.rounds m).state.trace) v

-- that of the run of a guest program
abbrev pub picture_after : Settings → List ℕ → List ℕ → Planned → View → List ℕ
picture_after s file input plan v = picture_of s file (opening (image_for s file) input plan) v

-- the text is the picture of the run that the settings name
pub record IsPictureOfRun (s : Settings) (file input : List ℕ) (v : View) (text : List ℕ) : Type 0 where
  pub plan : Planned
  pub planned : IsPlan s plan
  pub is_text : text ≡ picture_after s file input plan v

-- ---- the trace of a run on so many harts, as JSON in the format of Chrome's trace events

abbrev pub trace_events_of : Settings → Running → List ℕ
trace_events_of s r = trace_events_text s.harts r.state.trace

abbrev pub trace_events_after : Settings → List ℕ → List ℕ → Planned → List ℕ
trace_events_after s file input plan = trace_events_of s (after_run s file input plan)

-- the text is that of the trace of the run that the settings name
pub record IsTraceOfRun (s : Settings) (file input text : List ℕ) : Type 0 where
  pub plan : Planned
  pub planned : IsPlan s plan
  pub is_text : text ≡ trace_events_after s file input plan
