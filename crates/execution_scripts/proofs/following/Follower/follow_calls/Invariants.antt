use Rattle.std.proofs.Common.{◌≡◌, ℕ, map, take}
use Rattle.execution_file.specs.Views.{turn_view}
use Rattle.execution_scripts.specs.Courses.{AreWithin, Course, IsOn}
use Rattle.execution_scripts.proofs.Going.{at}
use Rattle.execution_scripts.proofs.Loops.{CallsDone}
use Rattle.execution_scripts.proofs.following.Follower.follow_calls.Given as goal

abbrev pub invariant-loop-turn : goal.invariant-loop-turn
invariant-loop-turn l = (c : Course) → IsOn c 0 l.fn.self → AreWithin c.lines (at l.fn.self) → at l.fn.self ≡ c.start → (n : ℕ) × CallsDone c (take l.turn-index (map turn_view l.calls)) n l.self
