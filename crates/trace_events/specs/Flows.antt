-- Flows: from each store to each event that read a byte of it.
use Rattle.std.specs.Prelude.{ℕ, ◌+◌, if◌then◌else◌, List, [], ◌∷◌, ◌++◌, codes, length, Option, Some, None}
use Rattle.std.specs.List.{list_any}
use Rattle.std.specs.Fmt.{decimal}
use Rattle.round_schedule.specs.declared.event.Event.{Event}
use Rattle.round_schedule.specs.Positions.{event}
use Rattle.report_lines.specs.Text.{hex}
use Rattle.byte_sources.specs.Sources.{is_index, sources}

-- the start of an end of a flow, of this kind
unfoldable pub flow_start : List ℕ → ℕ → ℕ → List ℕ
flow_start kind hart time = codes ",\n{\"ph\":" ++ kind ++ codes ",\"pid\":0,\"tid\":" ++ decimal (hart + 1) ++ codes ",\"ts\":" ++ decimal time

-- the number of the flow to byte k of the event at r, in 16 digits
unfoldable pub flow_number : ℕ → ℕ → List ℕ
flow_number r k = codes ",\"id\":\"" ++ hex 15 r ++ hex 1 k ++ codes "\",\"cat\":\"read\",\"name\":\"read\"}"

-- from the event at w to the one at r
unfoldable pub flow_text : List Event → ℕ → ℕ → ℕ → List ℕ
flow_text t r k w =
    flow_start (codes "\"s\"") (event t w).hart w ++ flow_number r k
    ++ flow_start (codes "\"f\",\"bp\":\"e\"") (event t r).hart r ++ flow_number r k

-- the flow for the next byte's source, where no byte before has the same one
abbrev pub flow_to : List Event → ℕ → List (Option ℕ) → Option ℕ → List ℕ
flow_to t r earlier None = []
flow_to t r earlier (Some w) = if list_any (is_index w) earlier then [] else flow_text t r (length earlier) w

abbrev pub flows_from : List Event → ℕ → List (Option ℕ) → List (Option ℕ) → List ℕ
flows_from t r earlier [] = []
flows_from t r earlier (s ∷ ss) = flow_to t r earlier s ++ flows_from t r (earlier ++ s ∷ []) ss

-- the flows to the event at r
abbrev pub flows_text : List Event → ℕ → List ℕ
flows_text t r = flows_from t r [] (sources t r)
