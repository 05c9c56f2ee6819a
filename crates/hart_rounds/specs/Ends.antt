-- What the round of one hart leaves.
use Rattle.std.specs.Prelude.{ℕ, Bool, false, if◌then◌else◌, List, [], length, Option, option_map, slice_get}
use Rattle.store_buffer.specs.Covered.{with_stores}
use Rattle.round_schedule.specs.declared.access.Access.{Access}
use Rattle.round_schedule.specs.Schedule.{HartRound}
use Rattle.hart_step.specs.declared.hart.Hart.{Hart}
use Rattle.hart_rounds.specs.declared.hart_end.HartEnd.{HartEnd}
use Rattle.hart_rounds.specs.Starts.{Start, rounds_of}

-- a round that does nothing
abbrev pub end_at_rest : Hart → HartEnd
end_at_rest h = record { hart = h; buffer = []; log = []; accesses = 0; waits = false }

-- the accesses that a round hands on: all or none
abbrev pub logged : Bool → List Access → List Access
logged logs log = if logs then log else []

-- a hart's round, with its accesses logged or just counted
abbrev pub end_of : Bool → HartRound Hart → HartEnd
end_of logs r = record {
  hart = r.last.hart;
  buffer = with_stores [] r.last.stores;
  log = logged logs r.last.accesses;
  accesses = length r.last.accesses;
  waits = r.waits;
}

-- the round of one hart, if there is such a hart
unfoldable pub round_at : Start → ℕ → Option HartEnd
round_at s h = option_map (end_of s.logs) (slice_get (rounds_of s) h)
