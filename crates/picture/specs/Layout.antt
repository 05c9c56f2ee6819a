-- Where the boxes of a picture stand. All lengths are whole numbers of pixels.
use Rattle.std.specs.Prelude.{ℕ, ◌+◌, ◌*◌, ◌==◌, ◌&&◌, Bool, not, max, if◌then◌else◌, List, [], ◌∷◌, ◌++◌}
use Rattle.std.specs.List.{list_any}
use Rattle.round_schedule.specs.declared.event.Event.{Event}
use Rattle.round_schedule.specs.Events.{is_serial}
use Rattle.round_schedule.specs.Positions.{event}
use Rattle.byte_sources.specs.Phases.{one_phase, same_turn}
use Rattle.picture.specs.declared.event_box.EventBox.{EventBox}
use Rattle.picture.specs.declared.rows.Row.{Row}

-- the left edge of the column of hart h; columns are 230 apart, and boxes 178 wide and 48 high
abbrev pub left_of : ℕ → ℕ
left_of h = 130 + 230 * h

-- the picture is as wide as the columns of its harts, and two of them at least
abbrev pub width_for : ℕ → ℕ
width_for harts = left_of (max harts 2)

-- whether they may stand beside each other: the parallel phases of different harts in one round
abbrev pub are_beside : Event → Event → Bool
are_beside e f = one_phase e f && not (is_serial e.phase) && not (e.hart == f.hart)

-- how far below the top of an event's box that of a later event stands at least
abbrev pub step : Event → Event → ℕ
step e f = if one_phase e f then 68 else (if e.round == f.round then 78 else 92)

-- the top of an event's box: as low as the boxes before it ask for, but for those that it stands beside
abbrev pub top_under : List EventBox → Event → ℕ
top_under [] e = 236
top_under (b ∷ bs) e = if are_beside b.event e then top_under bs e else max (b.top + step b.event e) (top_under bs e)

-- the box of a row, under the boxes before it
abbrev pub box_under : List Event → List EventBox → Row → EventBox
box_under t bs r = record { index = r.index; event = event t r.index; times = r.times; top = top_under bs (event t r.index) }

-- these boxes, and those of these rows
abbrev pub boxes_after : List Event → List EventBox → List Row → List EventBox
boxes_after t bs [] = bs
boxes_after t bs (r ∷ rs) = boxes_after t (bs ++ box_under t bs r ∷ []) rs

abbrev pub boxes_of : List Event → List Row → List EventBox
boxes_of t rs = boxes_after t [] rs

-- the greatest top of the boxes of an event's phase, and of all boxes
abbrev pub last_top_of_phase : List EventBox → Event → ℕ
last_top_of_phase [] e = 0
last_top_of_phase (b ∷ bs) e = if one_phase b.event e then max b.top (last_top_of_phase bs e) else last_top_of_phase bs e

abbrev pub last_top : List EventBox → ℕ
last_top [] = 236
last_top (b ∷ bs) = max b.top (last_top bs)

-- whether no box before an event's is of its phase, and whether none is of its phase and its hart
abbrev pub opens_phase : List EventBox → Event → Bool
opens_phase earlier e = not (list_any (λ b. one_phase b.event e) earlier)

abbrev pub opens_turn : List EventBox → Event → Bool
opens_turn earlier e = not (list_any (λ b. same_turn b.event e) earlier)

-- the texts of boxes, each with those before it
abbrev pub each_with_earlier : (List EventBox → EventBox → List ℕ) → List EventBox → List EventBox → List ℕ
each_with_earlier text earlier [] = []
each_with_earlier text earlier (b ∷ bs) = text earlier b ++ each_with_earlier text (earlier ++ b ∷ []) bs
