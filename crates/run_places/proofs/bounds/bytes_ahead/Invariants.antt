use Rattle.std.proofs.Common.{◌≡◌, ℕ, ◌<◌, ◌≤◌, length, get_or, None}
use Rattle.run_bounds.specs.declared.touched.TouchedByte.{TouchedByte}
use Rattle.run_places.specs.Bounds.{IsByteAhead}
use Rattle.run_places.proofs.bounds.bytes_ahead.Given as goal

abbrev pub invariant-loop-index : goal.invariant-loop-index
invariant-loop-index l = (k : ℕ) (d e : TouchedByte) → k < l.index → IsByteAhead (get_or l.a k d) (get_or l.b k e)

abbrev pub invariant-loop-index-2 : goal.invariant-loop-index-2
invariant-loop-index-2 l = (k : ℕ) (d : TouchedByte) → length l.a ≤ k → k < l.index → (get_or l.b k d).own ≡ None
