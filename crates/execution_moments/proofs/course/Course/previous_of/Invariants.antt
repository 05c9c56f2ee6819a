use Rattle.std.proofs.Common.{◌≡◌, ◌≤◌}
use Rattle.byte_sources.specs.Sources.{last_below}
use Rattle.execution_moments.specs.Shown.{is_of, previous_of}
use Rattle.execution_moments.proofs.course.Course.previous_of.Given as goal

abbrev pub invariant-loop-earlier : goal.invariant-loop-earlier
invariant-loop-earlier l = (previous_of l.self l.time l.number ≡ last_below (is_of l.self l.number) l.earlier) × (l.earlier ≤ l.time)

abbrev pub decreases-loop-earlier : goal.decreases-loop-earlier
decreases-loop-earlier l = l.earlier
