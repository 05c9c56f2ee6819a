use Rattle.std.proofs.Common.{◌≡◌, ◌-◌, length}
use Rattle.byte_sources.specs.Marks.{first_from}
use Rattle.execution_moments.specs.Shown.{is_of, next_of}
use Rattle.execution_moments.proofs.course.Course.next_of.Given as goal

abbrev pub invariant-loop-later : goal.invariant-loop-later
invariant-loop-later l = next_of l.self l.time l.number ≡ first_from (is_of l.self l.number) l.later (length l.self.sequence.items - l.later)
