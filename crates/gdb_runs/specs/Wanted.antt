-- The nearest point of a run at which something is told.
use Rattle.std.specs.Prelude.{◌≡◌, ℕ, ◌+◌, ◌-◌, Bool, true, false, List, [], Option, Some, min}
use Rattle.machine.specs.Machine.{after_rounds}
use Rattle.watching.specs.declared.watchpoint.Watchpoint.{Watchpoint}
use Rattle.watching.specs.declared.watchpoint.Way.{Way}
use Rattle.watching.specs.declared.watchpoint.Way.TheVariants.{On, Back}
use Rattle.past_harts.specs.declared.point.Point.{Point}
use Rattle.round_steps.specs.declared.told.Told.{Told}
use Rattle.round_steps.specs.declared.points.Telling.{Telling}
use Rattle.round_steps.specs.Points.{next_point_of, previous_point_of}
use Rattle.gdb_runs.specs.Sessions.{Recorded, State, stops_of}

-- told are each moment of a hart, faults, these addresses, and what these watchpoints tell of
pub record Wanted : Type 0 where
  pub each : Option ℕ
  pub faults : Bool
  pub stops : List ℕ
  pub watches : List Watchpoint

pub record AsksFor (w : Wanted) (t : Telling) : Type 0 where
  pub each : t.asked.each ≡ w.each
  pub faults : t.asked.faults ≡ w.faults
  pub stops : t.asked.stops.items ≡ w.stops
  pub watches : t.watches.items ≡ w.watches

-- on the way on the earliest one behind a point, and on the way back the latest one before it
abbrev pub nearest_of : Recorded → Way → Telling → Point → Option Told
nearest_of r On t here = next_point_of t.asked t.watches.items (after_rounds here.moment.rounds r.run) (r.rounds - here.moment.rounds) here
nearest_of r Back t here = previous_point_of t.asked t.watches.items r.run (min r.rounds (here.moment.rounds + 1)) here

pub record Finds (r : Recorded) (way : Way) (w : Wanted) (here : Point) (x : Option Told) : Type 0 where
  pub telling : Telling
  pub asks : AsksFor w telling
  pub is : x ≡ nearest_of r way telling here

-- all that a debugger is told, and each moment of a hart beside
abbrev pub all_told : State → Option ℕ → Wanted
all_told s each = record { each = each; faults = true; stops = stops_of s; watches = s.stops.watches }

-- the moments of a hart, and what watchpoints tell of
abbrev pub watched_of : State → ℕ → Wanted
watched_of s hart = record { each = Some hart; faults = false; stops = []; watches = s.stops.watches }

-- the moments of a hart, and nothing else
abbrev pub only_of : ℕ → Wanted
only_of hart = record { each = Some hart; faults = false; stops = []; watches = [] }
