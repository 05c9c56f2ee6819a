-- Which events of a trace have a box of their own. A load that repeats the one before it has none: it is counted with it.
use Rattle.std.specs.Prelude.{ℕ, zero, suc, ◌+◌, ◌-◌, Bool, false, if◌then◌else◌, List, [], ◌∷◌, length, map, slice_index, take, Option, Some, None}
use Rattle.round_schedule.specs.declared.event.Event.{Event}
use Rattle.round_schedule.specs.Positions.{event}
use Rattle.byte_sources.specs.Repeats.{repeats}
use Rattle.picture.specs.declared.rows.Row.{Row}
use Rattle.picture.specs.declared.view.View.{View}
use Rattle.picture.specs.Views.{indexes_seen}

-- whether the event at i repeats the one before it
abbrev pub is_more : List Event → Option ℕ → ℕ → Bool
is_more t None i = false
is_more t (Some j) i = repeats t j i

-- the index before the one of number k
abbrev pub index_before : List ℕ → ℕ → Option ℕ
index_before is zero = None
index_before is (suc k) = Some (slice_index is k)

-- how many events in a row are the same load, of which the first is at i and these follow
abbrev pub times : List Event → ℕ → List ℕ → ℕ
times t i [] = 1
times t i (j ∷ is) = if repeats t i j then 1 + times t j is else 1

abbrev pub row : List Event → ℕ → List ℕ → Row
row t i is = record { index = i; times = times t i is }

-- the rows of the events at these indexes, with the index before them
abbrev pub rows_after : List Event → Option ℕ → List ℕ → List Row
rows_after t before [] = []
rows_after t before (i ∷ is) = if is_more t before i then rows_after t (Some i) is else row t i is ∷ rows_after t (Some i) is

-- the rows of all events that a view shows
abbrev pub rows_seen : View → List Event → List Row
rows_seen v t = rows_after t None (indexes_seen v t)

-- a picture shows the first 400 of them, and leaves the rest out
abbrev pub rows_shown : View → List Event → List Row
rows_shown v t = take 400 (rows_seen v t)

abbrev pub left_out : View → List Event → ℕ
left_out v t = length (rows_seen v t) - 400

-- the events that have a box, in order
abbrev pub events_shown : View → List Event → List Event
events_shown v t = map (λ (r : Row). event t r.index) (rows_shown v t)
