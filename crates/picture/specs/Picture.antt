-- The picture of a run, as text of SVG.
use Rattle.std.specs.Prelude.{ℕ, ◌+◌, ◌==◌, if◌then◌else◌, List, [], ◌++◌, codes, length, map}
use Rattle.std.specs.Fmt.{decimal}
use Rattle.round_schedule.specs.declared.event.Event.{Event}
use Rattle.hart_step.specs.declared.hart.Hart.{Hart}
use Rattle.trace.specs.Traced.{opening_at}
use Rattle.picture.specs.declared.event_box.EventBox.{EventBox}
use Rattle.picture.specs.declared.scene.Scene.{Scene}
use Rattle.picture.specs.declared.view.View.{View}
use Rattle.picture.specs.Arrows.{arrows_to}
use Rattle.picture.specs.Bands.{band_at, columns_text}
use Rattle.picture.specs.Boxes.{box_text}
use Rattle.picture.specs.Elements.{attribute, label_text, rectangle_text}
use Rattle.picture.specs.Layout.{boxes_of, each_with_earlier, last_top, width_for}
use Rattle.picture.specs.Style.{legend_text, root_text, style_text, view_box_start}
use Rattle.picture.specs.Titles.{Told, told}
use Rattle.picture.specs.Rows.{left_out, rows_shown}

-- what the picture shows of its plane: all of it
unfoldable pub view_box_text : ℕ → ℕ → List ℕ
view_box_text width height = view_box_start ++ decimal width ++ codes " " ++ decimal height ++ codes "'>\n"

-- the start of the root element
unfoldable pub start_text : ℕ → ℕ → List ℕ
start_text width height = root_text ++ attribute (codes " width='") width ++ attribute (codes " height='") height ++ view_box_text width height

-- a background of the picture's own
unfoldable pub page_text : ℕ → ℕ → List ℕ
page_text width height = rectangle_text (codes "page") (record { x = 0; y = 0; width = width; height = height })

-- how many boxes are left out, where there are any
unfoldable pub rest_text : ℕ → ℕ → List ℕ
rest_text bottom n =
    if n == 0 then []
    else label_text (codes "label") (record { x = 10; y = bottom + 58 }) (decimal n ++ codes " boxes are left out")

-- what is drawn: the trace of a run, the bytes that memory opened with, the harts before the first round that is drawn and after the last
-- one, and what is known of each event that has a box
pub record Drawn : Type 0 where
  pub trace : List Event
  pub opening : ℕ → ℕ
  pub starts : List Hart
  pub ends : List Hart
  pub told : List Told

abbrev pub drawn_of : Scene → Drawn
drawn_of s = record { trace = s.trace.now.events; opening = opening_at s.trace.now.opening; starts = s.starts.now; ends = s.ends.now; told = map told s.sites.now }

-- the picture of these boxes, with the columns of harts, and so many boxes left out; what stands later covers what stands earlier
unfoldable pub drawing_text : Drawn → ℕ → List EventBox → ℕ → List ℕ
drawing_text d from bs n =
    let width = width_for (length d.starts) in
    let bottom = last_top bs + 48 in
    start_text width (bottom + 74) ++ style_text ++ page_text width (bottom + 74) ++ legend_text
    ++ each_with_earlier (band_at width bs) [] bs
    ++ columns_text bottom from 0 d.starts d.ends
    ++ each_with_earlier (arrows_to d.trace) [] bs
    ++ each_with_earlier (box_text d.trace d.opening d.told) [] bs
    ++ rest_text bottom n ++ codes "</svg>\n"

-- the picture of it, as far as the view shows it
abbrev pub picture_text : Drawn → View → List ℕ
picture_text d v = drawing_text d v.from (boxes_of d.trace (rows_shown v d.trace)) (left_out v d.trace)
