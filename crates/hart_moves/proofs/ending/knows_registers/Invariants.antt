use Rattle.std.proofs.Common.{◌≡◌, ℕ, ◌<◌, true, is_some}
use Rattle.all_endings.specs.Locality.{view}
use Rattle.hart_moves.proofs.ending.knows_registers.Given as goal

abbrev pub invariant-loop-r : goal.invariant-loop-r
invariant-loop-r l = (k : ℕ) → k < l.r → is_some (view l.state.registers k) ≡ true
