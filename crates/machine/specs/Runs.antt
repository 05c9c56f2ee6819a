-- What the run is that settings ask for.
use Rattle.std.specs.Prelude.{ℕ, List}
use Rattle.round_schedule.specs.declared.event.Event.{Event}
use Rattle.round_planner.specs.Quotas.{Planned}
use Rattle.round_planner.specs.declared.settings.Settings.{Settings}
use Rattle.round_planner.specs.Settings.{image_for}
use Rattle.machine.specs.Machine.{Running, after_rounds, opening}

-- the machine after the rounds of a run, from a file, an input and a plan
abbrev pub after_run : Settings → List ℕ → List ℕ → Planned → Running
after_run s file input plan = after_rounds s.rounds (opening (image_for s file) input plan)

-- the events of such a run
abbrev pub trace_after : Settings → List ℕ → List ℕ → Planned → List Event
trace_after s file input plan = (after_run s file input plan).state.trace
