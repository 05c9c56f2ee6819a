-- The bands of rounds, each with its parallel phase above its serial phase, and the columns of harts.
use Rattle.std.specs.Prelude.{ℕ, ◌+◌, ◌-◌, if◌then◌else◌, List, [], ◌∷◌, ◌++◌, codes, Option, Some, None}
use Rattle.std.specs.Fmt.{decimal}
use Rattle.round_schedule.specs.declared.event.Phase.{Phase}
use Rattle.round_schedule.specs.declared.event.Phase.TheVariants.{Parallel, Serial}
use Rattle.hart_step.specs.declared.hart.Hart.{Hart}
use Rattle.hart_step.specs.declared.hart.Stop.{Stop}
use Rattle.report_lines.specs.Text.{stop_text}
use Rattle.picture.specs.declared.event_box.EventBox.{EventBox}
use Rattle.picture.specs.Elements.{down_text, label_text, rectangle_text}
use Rattle.picture.specs.Layout.{last_top_of_phase, left_of, opens_phase}

abbrev pub phase_text : Phase → List ℕ
phase_text Parallel = codes "parallel"
phase_text Serial = codes "serial"

-- the band of a phase of a round, down to its last box
unfoldable pub band_text : ℕ → ℕ → EventBox → List ℕ
band_text width last b =
    rectangle_text (phase_text b.event.phase) (record { x = 0; y = b.top - 22; width = width; height = (last + 76) - b.top })
    ++ label_text (codes "label") (record { x = 10; y = b.top + 14 }) (codes "round " ++ decimal b.event.round)
    ++ label_text (codes "label") (record { x = 10; y = b.top + 30 }) (phase_text b.event.phase)

-- a phase has one band, with its first box
abbrev pub band_at : ℕ → List EventBox → List EventBox → EventBox → List ℕ
band_at width all earlier b = if opens_phase earlier b.event then band_text width (last_top_of_phase all b.event) b else []

abbrev pub stopped_before_text : ℕ → List ℕ
stopped_before_text from = codes "stopped before round " ++ decimal from

-- what a hart is at the end of the rounds that are drawn, of which `from` is the first: running, or why it stopped in one of them. One that
-- had stopped before says so
abbrev pub end_text : ℕ → Option Stop → Option Stop → List ℕ
end_text from None end = stop_text end
end_text from (Some s) end = stopped_before_text from

-- a hart's column: its number above it, a line, and below it what it is at the end
unfoldable pub column_text : ℕ → ℕ → ℕ → Hart → Hart → List ℕ
column_text bottom from h start end =
    label_text (codes "head") (record { x = left_of h; y = 202 }) (codes "hart " ++ decimal h)
    ++ down_text (codes "column") (record { x = left_of h + 89; y = 210 }) (bottom + 18)
    ++ label_text (codes "label") (record { x = left_of h; y = bottom + 34 }) (end_text from start.stop end.stop)

-- the columns of harts h, h + 1, .., as they are before round `from` and at the end
abbrev pub columns_text : ℕ → ℕ → ℕ → List Hart → List Hart → List ℕ
columns_text bottom from h [] ends = []
columns_text bottom from h (s ∷ ss) [] = []
columns_text bottom from h (s ∷ ss) (e ∷ es) = column_text bottom from h s e ++ columns_text bottom from (h + 1) ss es
