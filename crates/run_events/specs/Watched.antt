-- Where who seeks hits begins, and what it has seen of a run's events.
use Rattle.std.specs.Prelude.{◌≡◌, List, [], ◌++◌, Option}
use Rattle.pages.specs.declared.access.Range.{Range}
use Rattle.round_schedule.specs.declared.event.Event.{Event}
use Rattle.machine.specs.Machine.{Running}
use Rattle.machine.specs.Untraced.{IsUntraced, Untraced}
use Rattle.run_events.specs.declared.rounds.Rounds.{Rounds}
use Rattle.run_events.specs.declared.sought.Sought.{Sought}
use Rattle.run_events.specs.Hits.{sought_in}

-- it is the machine of a run before the first round, with no event in the trace
pub record IsAtStart (u : Untraced) : Type 0 where
  pub opened : u.rounds ≡ 0
  pub run : (m : Running) × IsUntraced m u × (m.state.trace ≡ [])

-- it seeks just this, and has seen these events: the last of them are there, and what is sought of those before was found
pub record HasWatched (ranges : List Range) (within : Option Rounds) (sought : Sought) (found last events : List Event) : Type 0 where
  pub same_ranges : sought.ranges.now ≡ ranges
  pub same_within : sought.within ≡ within
  pub before : List Event
  pub whole : events ≡ before ++ last
  pub hits : found ≡ sought_in within ranges before
