use Rattle.std.proofs.Common.{◌≡◌, ℕ, ◌<◌, None, Some, get_or}
use Rattle.run_places.proofs.ahead.registers_tell.Given as goal

abbrev pub invariant-loop-register : goal.invariant-loop-register
invariant-loop-register l = (k n : ℕ) → k < l.register → get_or l.told k None ≡ Some n → get_or l.teller k None ≡ Some n
