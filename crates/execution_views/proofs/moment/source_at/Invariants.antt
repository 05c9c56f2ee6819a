use Rattle.std.proofs.Common.{◌≡◌, ◌≤◌, length}
use Rattle.byte_sources.specs.Sources.{last_below}
use Rattle.execution_views.specs.Moments.{may_read}
use Rattle.execution_views.proofs.moment.source_at.Given as goal

abbrev pub invariant-loop-position : goal.invariant-loop-position
invariant-loop-position l = record {
  source : last_below (may_read l.events l.order l.moment l.address) (length l.order) ≡ last_below (may_read l.events l.order l.moment l.address) l.position;
  within : l.position ≤ length l.order;
}

abbrev pub decreases-loop-position : goal.decreases-loop-position
decreases-loop-position l = l.position
