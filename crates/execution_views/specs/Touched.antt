-- The operations of an order that touch some bytes.
use Rattle.std.specs.Prelude.{ℕ, ◌==◌, ◌&&◌, ◌||◌, Bool, true, not, List, filter, length, slice_index, Option, Some, None}
use Rattle.std.specs.List.{list_any, range_with_len}
use Rattle.pages.specs.declared.access.Range.{Range}
use Rattle.round_schedule.specs.declared.event.Event.{Event}
use Rattle.round_schedule.specs.Accesses.{stores}
use Rattle.round_schedule.specs.Positions.{event}
use Rattle.byte_sources.specs.Touching.{touches}

-- whether the event is of that hart, where one is told
abbrev pub is_of_hart : Option ℕ → Event → Bool
is_of_hart None e = true
is_of_hart (Some h) e = e.hart == h

-- and wrote, where only those that did are sought
abbrev pub is_chosen : Option ℕ → Bool → Event → Bool
is_chosen hart only_stores e = is_of_hart hart e && (not only_stores || stores e.access)

-- and touches one of the ranges
abbrev pub is_sought : List Range → Option ℕ → Bool → Event → Bool
is_sought ranges hart only_stores e = list_any (touches e.access) ranges && is_chosen hart only_stores e

-- the positions of these in the order of memory, rising
abbrev pub positions_sought : List Event → List ℕ → List Range → Option ℕ → Bool → List ℕ
positions_sought t g ranges hart only_stores = filter (λ p. is_sought ranges hart only_stores (event t (slice_index g p))) (range_with_len 0 (length g))
