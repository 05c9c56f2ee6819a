-- A trace as JSON in the format of Chrome's trace events.
use Rattle.std.specs.Prelude.{ℕ, zero, suc, ◌+◌, List, [], ◌∷◌, ◌++◌, codes, Option, Some, None}
use Rattle.std.specs.Fmt.{decimal}
use Rattle.round_schedule.specs.declared.event.Event.{Event}
use Rattle.round_schedule.specs.Positions.{event}
use Rattle.trace_events.specs.Slices.{event_text, round_text, serial_text}
use Rattle.trace_events.specs.Flows.{flows_text}

-- the name of hart h's track
unfoldable pub track_text : ℕ → List ℕ
track_text h =
    codes ",\n{\"ph\":\"M\",\"pid\":0,\"tid\":" ++ decimal (h + 1) ++ codes ",\"name\":\"thread_name\",\"args\":{\"name\":\"hart "
    ++ decimal h ++ codes "\"}}"

-- those of n harts from h on
abbrev pub tracks_text : ℕ → ℕ → List ℕ
tracks_text h zero = []
tracks_text h (suc n) = track_text h ++ tracks_text (h + 1) n

-- what stands before the events: the names of the tracks
unfoldable pub head_text : ℕ → List ℕ
head_text harts =
    codes "{\"traceEvents\":[\n{\"ph\":\"M\",\"pid\":0,\"tid\":0,\"name\":\"thread_name\",\"args\":{\"name\":\"rounds\"}}"
    ++ tracks_text 0 harts

-- what stands of an event of the trace t, which has index i: the slices that begin with it, its own, and the flows to it
unfoldable pub entry_text : List Event → ℕ → Option Event → Event → List Event → List ℕ
entry_text t i before e es = round_text i before e es ++ serial_text i before e es ++ event_text i e ++ flows_text t i

-- the event before index i
abbrev pub before_index : List Event → ℕ → Option Event
before_index t zero = None
before_index t (suc i) = Some (event t i)

-- the same of the events from index i on
abbrev pub entries_text : List Event → ℕ → Option Event → List Event → List ℕ
entries_text t i before [] = []
entries_text t i before (e ∷ es) = entry_text t i before e es ++ entries_text t (i + 1) (Some e) es

-- a trace of a run with so many harts
unfoldable pub trace_events_text : ℕ → List Event → List ℕ
trace_events_text harts t = head_text harts ++ entries_text t 0 None t ++ codes "\n]}\n"
