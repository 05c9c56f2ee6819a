use Rattle.std.proofs.Common.{◌≡◌, ◌-◌, length}
use Rattle.byte_sources.specs.Marks.{first_from}
use Rattle.execution_views.specs.Moments.{is_next_of, next_operation}
use Rattle.execution_views.proofs.moment.next_operation.Given as goal

abbrev pub invariant-loop-later : goal.invariant-loop-later
invariant-loop-later l = next_operation l.events l.index ≡ first_from (is_next_of l.events l.index) l.later (length l.events - l.later)
