-- Events: accesses with their round, hart and phase.
use Rattle.std.specs.Prelude.{ℕ, List, map, Bool, true, false}
use Rattle.round_schedule.specs.declared.access.Access.{Access}
use Rattle.round_schedule.specs.declared.event.Event.{Event}
use Rattle.round_schedule.specs.declared.event.Phase.{Phase}
use Rattle.round_schedule.specs.declared.event.Phase.TheVariants.{Parallel, Serial}

abbrev pub is_serial : Phase → Bool
is_serial Parallel = false
is_serial Serial = true

abbrev pub event_of : ℕ → ℕ → Phase → Access → Event
event_of n i s a = record { access = a; round = n; hart = i; phase = s }

-- the accesses of hart i in one phase of round n
abbrev pub events_of : ℕ → ℕ → Phase → List Access → List Event
events_of n i s as' = map (event_of n i s) as'
