use Rattle.std.proofs.Common.{ℕ}
use Rattle.execution_scripts.specs.Courses.{AreWithin, Course, IsOn}
use Rattle.execution_scripts.proofs.Going.{at}
use Rattle.execution_scripts.proofs.Loops.{HasGone}
use Rattle.execution_scripts.proofs.following.Follower.call.Given as goal

abbrev pub invariant-loop-step : goal.invariant-loop-step
invariant-loop-step l = (c : Course) (n : ℕ) → IsOn c n l.fn.self → AreWithin c.lines (at l.fn.self) → HasGone c n l.hart 0 l._step (at l.fn.self) l.self
