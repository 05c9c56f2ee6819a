-- Where a run stands that was resumed.
use Rattle.std.specs.Prelude.{ℕ, Option, Some, None}
use Rattle.watching.specs.declared.watchpoint.Way.{Way}
use Rattle.watching.specs.declared.watchpoint.Way.TheVariants.{On, Back}
use Rattle.past_harts.specs.declared.point.Point.{Point}
use Rattle.round_steps.specs.declared.told.Told.{Told}
use Rattle.gdb_replies.specs.declared.stop_reply.Reason.{Reason}
use Rattle.gdb_replies.specs.declared.stop_reply.Reason.TheVariants.{Begin, End, Signal}
use Rattle.gdb_talk.specs.Told.{why_told}
use Rattle.gdb_runs.specs.declared.session.Standing.{Standing}
use Rattle.gdb_runs.specs.Sessions.{Recorded, State, hart_seen, start_of}

abbrev pub moved : Standing → Point → Reason → ℕ → Standing
moved t at reason hart = record t { point = at; reason = reason; told = hart; general = hart }

-- where this is told, of the hart whose moment it is
abbrev pub told_at : Recorded → State → Told → Standing
told_at r s x =
    let hart = x.point.moment.place.hart in
    moved s.standing x.point (why_told s.stops x.watch (hart_seen r.run x.point hart)) hart

abbrev pub told_or : Recorded → State → Standing → Option Told → Standing
told_or r s otherwise None = otherwise
told_or r s otherwise (Some x) = told_at r s x

-- where nothing is told any more: behind the last round, or before the first one. The hart is that of the last stop
abbrev pub end_of : ℕ → Standing → Way → Standing
end_of rounds t On = moved t (start_of rounds) End t.told
end_of rounds t Back = moved t (start_of 0) Begin t.told

-- where it stood
abbrev pub stays : Standing → Reason → ℕ → Standing
stays t reason hart = moved t t.point reason hart

-- where it was to stop once
abbrev pub at_goal : Standing → Point → Standing
at_goal t goal = record t { point = goal; reason = Signal 0; told = goal.moment.place.hart; general = goal.moment.place.hart; goal = None }
