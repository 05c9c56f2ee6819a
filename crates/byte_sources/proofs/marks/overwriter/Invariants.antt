use Rattle.std.proofs.Common.{◌≡◌, ◌-◌, length}
use Rattle.round_schedule.specs.Positions.{writes_at}
use Rattle.byte_sources.specs.Marks.{first_from, overwriter}
use Rattle.byte_sources.proofs.marks.overwriter.Given as goal

abbrev pub invariant-loop-later : goal.invariant-loop-later
invariant-loop-later l =
    overwriter l.trace.events l.index l.byte ≡ first_from (λ v. writes_at l.trace.events v l.byte) l.later (length l.trace.events - l.later)
