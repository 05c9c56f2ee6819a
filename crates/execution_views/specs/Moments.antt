-- Memory at a moment of an execution, as a hart sees it.
use Rattle.std.specs.Prelude.{ℕ, ◌-◌, ◌==◌, ◌&&◌, ◌||◌, Bool, nat_lt, List, length, map, slice_index, Option, Some, None, option_map}
use Rattle.std.specs.List.{range_with_len}
use Rattle.round_schedule.specs.declared.event.Event.{Event}
use Rattle.round_schedule.specs.Positions.{event, source_byte, writes_at}
use Rattle.memory_order.specs.Operations.{is_operation}
use Rattle.memory_order.specs.Orders.{order_position}
use Rattle.byte_sources.specs.Marks.{first_from}
use Rattle.byte_sources.specs.Sources.{last_below}
use Rattle.execution_views.specs.declared.moment.Moment.{Moment}

-- whether a load of the hart at this moment may read byte x of the operation at position p of the order, by the load value axiom (manual,
-- section 14.1): this one writes it, and precedes the moment in the order, or is one that the hart has done before
abbrev pub may_read : List Event → List ℕ → Moment → ℕ → ℕ → Bool
may_read t g m x p =
    let w = slice_index g p in
    writes_at t w x && (nat_lt p m.position || (nat_lt w m.index && (event t w).hart == m.hart))

-- the last of these in the order
abbrev pub source_at : List Event → List ℕ → Moment → ℕ → Option ℕ
source_at t g m x = option_map (slice_index g) (last_below (may_read t g m x) (length g))

-- the byte at an address, as the hart sees it at the moment
abbrev pub byte_at : List Event → (ℕ → ℕ) → List ℕ → Moment → ℕ → ℕ
byte_at t opening g m x = source_byte t opening x (source_at t g m x)

abbrev pub bytes_at : List Event → (ℕ → ℕ) → List ℕ → Moment → ℕ → ℕ → List ℕ
bytes_at t opening g m first count = map (byte_at t opening g m) (range_with_len first count)

-- the first memory operation from index k on of the hart of the instruction at index k, in program order
abbrev pub is_next_of : List Event → ℕ → ℕ → Bool
is_next_of t k j = (event t j).hart == (event t k).hart && is_operation (event t j)

abbrev pub next_operation : List Event → ℕ → Option ℕ
next_operation t k = first_from (is_next_of t k) k (length t - k)

-- where that stands in the order; at the order's end where there is none
abbrev pub position_of : List ℕ → Option ℕ → ℕ
position_of g None = length g
position_of g (Some j) = order_position g j

-- the moment of the instruction at index k
abbrev pub moment_of : List Event → List ℕ → ℕ → Moment
moment_of t g k = record { hart = (event t k).hart; index = k; position = position_of g (next_operation t k) }
