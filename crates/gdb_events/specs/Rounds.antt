-- The events of the round in which a moment lies.
use Rattle.std.specs.Prelude.{Bool, true, false, List, length, drop}
use Rattle.round_schedule.specs.declared.event.Event.{Event}
use Rattle.round_schedule.specs.declared.event.Phase.{Phase}
use Rattle.round_schedule.specs.declared.event.Phase.TheVariants.{Parallel, Serial}
use Rattle.machine.specs.Machine.{Running, after_rounds}

-- the events of the next round
abbrev pub round_events : Running → List Event
round_events m = drop (length m.state.trace) (after_rounds 1 m).state.trace

abbrev pub is_parallel : Phase → Bool
is_parallel Parallel = true
is_parallel Serial = false
