-- The events of a trace that have a byte in one of some ranges.
use Rattle.std.specs.Prelude.{ℕ, ◌&&◌, ◌||◌, ◌==◌, Bool, true, not, nat_le, List, filter, Option, Some, None}
use Rattle.std.specs.List.{list_any}
use Rattle.pages.specs.declared.access.Range.{Range}
use Rattle.pages.specs.Memory.{in_range}
use Rattle.round_schedule.specs.declared.event.Event.{Event}
use Rattle.round_schedule.specs.Accesses.{address_of, bytes_of, stores}
use Rattle.round_schedule.specs.Held.{any_byte}
use Rattle.run_events.specs.declared.rounds.Rounds.{Rounds}

-- whether the address lies in one of the ranges; a range that ends past all addresses does not wrap
abbrev pub is_watched : List Range → ℕ → Bool
is_watched ranges x = list_any (λ (r : Range). in_range r.start r.len x) ranges

-- whether one of the bytes that the access speaks of does; a fence speaks of none, a failed store-conditional of those that it did not write
abbrev pub is_hit : List Range → Event → Bool
is_hit ranges e = any_byte (is_watched ranges) (address_of e.access) (bytes_of e.access)

-- they are in the order of the trace
abbrev pub hits : List Range → List Event → List Event
hits ranges t = filter (is_hit ranges) t

-- whether the event is of that hart, where one is told
abbrev pub is_of_hart : Option ℕ → Event → Bool
is_of_hart None e = true
is_of_hart (Some h) e = e.hart == h

-- and, where only those are sought, whether it wrote
abbrev pub is_chosen : Option ℕ → Bool → Event → Bool
is_chosen hart only_stores e = is_of_hart hart e && (not only_stores || stores e.access)

-- whether the event is of a round from `from` to `to`, both counted
abbrev pub is_within : ℕ → ℕ → Event → Bool
is_within from to e = nat_le from e.round && nat_le e.round to

-- the events of those rounds, in the order of the trace
abbrev pub of_rounds : ℕ → ℕ → List Event → List Event
of_rounds from to es = filter (is_within from to) es

-- the hits, of some rounds alone where they are told
abbrev pub sought_in : Option Rounds → List Range → List Event → List Event
sought_in None ranges t = hits ranges t
sought_in (Some rounds) ranges t = of_rounds rounds.first rounds.last (hits ranges t)
