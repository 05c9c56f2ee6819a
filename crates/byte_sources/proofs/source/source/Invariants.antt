use Rattle.std.proofs.Common.{◌≡◌}
use Rattle.byte_sources.specs.Sources.{gives, last_below}
use Rattle.byte_sources.proofs.source.source.Given as goal

abbrev pub invariant-loop-before : goal.invariant-loop-before
invariant-loop-before l = last_below (gives l.trace.events l.reader l.byte) l.index ≡ last_below (gives l.trace.events l.reader l.byte) l.before

abbrev pub decreases-loop-before : goal.decreases-loop-before
decreases-loop-before l = l.before
