-- Which events of a trace a picture shows.
use Rattle.std.specs.Prelude.{ℕ, ◌==◌, ◌&&◌, ◌||◌, Bool, nat_le, List, filter, length}
use Rattle.std.specs.List.{list_any, range_with_len}
use Rattle.pages.specs.declared.access.Range.{Range}
use Rattle.round_schedule.specs.declared.access.Access.{Access}
use Rattle.round_schedule.specs.declared.event.Event.{Event}
use Rattle.round_schedule.specs.Positions.{event}
use Rattle.byte_sources.specs.Touching.{touches}
use Rattle.picture.specs.declared.view.View.{View}

-- whether the access touches one of the ranges; where none is given, each access does
abbrev pub is_seen : List Range → Access → Bool
is_seen rs a = length rs == 0 || list_any (touches a) rs

-- whether the event is of a round from the first one to the last one, and is seen
abbrev pub is_shown : View → Event → Bool
is_shown v e = nat_le v.from e.round && nat_le e.round v.to && is_seen v.ranges.now e.access

-- the indexes of all such events, in rising order
unfoldable pub indexes_seen : View → List Event → List ℕ
indexes_seen v t = filter (λ i. is_shown v (event t i)) (range_with_len 0 (length t))
