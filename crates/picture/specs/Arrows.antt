-- The arrows: from each store to each event that read a byte of it, and from above where a byte is as memory opened.
use Rattle.std.specs.Prelude.{ℕ, ◌+◌, ◌-◌, ◌==◌, Bool, true, false, if◌then◌else◌, nat_lt, List, [], ◌∷◌, ◌++◌, codes, Option}
use Rattle.std.specs.List.{list_any}
use Rattle.round_schedule.specs.declared.event.Event.{Event}
use Rattle.byte_sources.specs.Sources.{is_opening, is_index, sources}
use Rattle.picture.specs.declared.elements.Curve.{Curve}
use Rattle.picture.specs.declared.event_box.EventBox.{EventBox}
use Rattle.picture.specs.Elements.{curve_text, down_text}
use Rattle.picture.specs.Layout.{left_of}

-- the right edge of a hart's boxes, and the middle of a box
abbrev pub right_of : ℕ → ℕ
right_of h = left_of h + 178

abbrev pub middle_of : EventBox → ℕ
middle_of b = b.top + 24

-- from the right side to the right side within a hart, and else between the sides that face each other
abbrev pub curve_between : EventBox → EventBox → Curve
curve_between a b =
    let s = a.event.hart in
    let r = b.event.hart in
    if s == r then curve (right_of s) (right_of s + 34) (right_of s + 34) (right_of s)
    else (if nat_lt s r then curve (right_of s) (right_of s + 44) (left_of r - 44) (left_of r)
    else curve (left_of s) (left_of s - 44) (right_of r + 44) (right_of r))
  where
    curve : ℕ → ℕ → ℕ → ℕ → Curve
    curve x leaving entering x' = record { start = record { x = x; y = middle_of a }; leaving = leaving; entering = entering; end = record { x = x'; y = middle_of b } }

-- an arrow within a hart, and one between harts, have classes of their own
abbrev pub arrow_class : Bool → List ℕ
arrow_class true = codes "own"
arrow_class false = codes "other"

unfoldable pub arrow_text : EventBox → EventBox → List ℕ
arrow_text a b = curve_text (arrow_class (a.event.hart == b.event.hart)) (curve_between a b)

-- an arrow from a box, where that has the index of a source
abbrev pub arrow_from : List (Option ℕ) → EventBox → EventBox → List ℕ
arrow_from ss b a = if list_any (is_index a.index) ss then arrow_text a b else []

abbrev pub arrows_from : List (Option ℕ) → EventBox → List EventBox → List ℕ
arrows_from ss b [] = []
arrows_from ss b (a ∷ as') = arrow_from ss b a ++ arrows_from ss b as'

-- a short arrow from above, where one of the sources is what memory opened with
unfoldable pub opening_text : List (Option ℕ) → EventBox → List ℕ
opening_text ss b =
    if list_any is_opening ss
    then down_text (codes "opening") (record { x = left_of b.event.hart + 26; y = b.top - 15 }) b.top
    else []

-- all arrows to a box
abbrev pub arrows_to : List Event → List EventBox → EventBox → List ℕ
arrows_to t earlier b = arrows_from (sources t b.index) b earlier ++ opening_text (sources t b.index) b
