use Rattle.std.proofs.Common.{◌≡◌, ℕ, ◌<◌, None, Some, get_or}
use Rattle.run_places.proofs.ahead.output_tells.Given as goal

abbrev pub invariant-loop-index : goal.invariant-loop-index
invariant-loop-index l = (k n : ℕ) → k < l.index → get_or l.told k None ≡ Some n → get_or l.teller k None ≡ Some n
