-- Loads that do once more what the load before them did.
use Rattle.std.specs.Prelude.{ℕ, ◌+◌, ◌==◌, ◌&&◌, Bool, false, not, List}
use Rattle.std.specs.List.{list_any}
use Rattle.pages.specs.Memory.{width_bytes}
use Rattle.round_schedule.specs.declared.access.Access.{Access}
use Rattle.round_schedule.specs.declared.access.Access.TheVariants.{Load, Store, LoadReserved, StoreConditional, Atomic, Fence}
use Rattle.round_schedule.specs.declared.event.Event.{Event}
use Rattle.round_schedule.specs.Positions.{event, writes_at}
use Rattle.byte_sources.specs.Phases.{same_turn}
use Rattle.byte_sources.specs.Sources.{between, bytes}

-- whether an access is a load of these bytes that reads this number
abbrev pub loads_so : ℕ → ℕ → ℕ → Access → Bool
loads_so count a r (Load w p b s) = (width_bytes w == count) && (b == a) && (s == r)
loads_so count a r (Store w p b v) = false
loads_so count a r (LoadReserved w o p b s) = false
loads_so count a r (StoreConditional w o p b v) = false
loads_so count a r (Atomic w o p b s v) = false
loads_so count a r (Fence b f m p) = false

-- whether two accesses are loads of the same bytes that read the same number
abbrev pub same_load : Access → Access → Bool
same_load (Load w p a r) b = loads_so (width_bytes w) a r b
same_load (Store w p a v) b = false
same_load (LoadReserved w o p a r) b = false
same_load (StoreConditional w o p a v) b = false
same_load (Atomic w o p a r v) b = false
same_load (Fence c f m p) b = false

-- whether the event at k writes a byte of an access
abbrev pub writes_some : List Event → Access → ℕ → Bool
writes_some t a k = list_any (λ x. writes_at t k x) (bytes a)

-- whether the event at j is a load that repeats the one at i: of the same hart in the same phase of a round, of the same bytes, of the same
-- number, and no event between them writes one of these bytes
unfoldable pub repeats : List Event → ℕ → ℕ → Bool
repeats t i j =
    same_turn (event t i) (event t j) && same_load (event t i).access (event t j).access
    && not (list_any (writes_some t (event t i).access) (between (i + 1) j))
