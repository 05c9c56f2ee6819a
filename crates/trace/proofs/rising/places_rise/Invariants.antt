use Rattle.std.proofs.Common.{ℕ, ◌<◌}
use Rattle.trace.specs.LastPlaces.{AreLast, IsAbove}
use Rattle.trace.proofs.rising.places_rise.Given as goal

abbrev pub invariant-loop-i : goal.invariant-loop-i
invariant-loop-i l = record { above : (j : ℕ) → j < l.i → IsAbove l.events j; last : AreLast l.events l.i l.last }
