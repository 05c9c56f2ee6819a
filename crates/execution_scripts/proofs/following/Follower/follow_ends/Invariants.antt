use Rattle.std.proofs.Common.{◌≡◌, ◌%◌, ℕ}
use Rattle.execution_scripts.specs.Courses.{AreWithin, Course, IsOn}
use Rattle.execution_scripts.proofs.Going.{at}
use Rattle.execution_scripts.proofs.Loops.{EndsDone}
use Rattle.execution_scripts.proofs.following.Follower.follow_ends.Given as goal

abbrev pub invariant-loop-part : goal.invariant-loop-part
invariant-loop-part l = record {
  counts : l.hart ≡ l.part-index % 256;
  done : (c : Course) (n : ℕ) → IsOn c n l.fn.self → AreWithin c.lines (at l.fn.self) → EndsDone c n l.part-index (at l.fn.self) l.self;
}
