use Rattle.std.proofs.Common.{◌≡◌, ℕ, ◌<◌, false, slice_get}
use Rattle.round_steps.specs.Stopping.{tells_anew}
use Rattle.round_steps.proofs.stops_alone.have_no_new_stop.Given as goal

abbrev pub invariant-loop-number : goal.invariant-loop-number
invariant-loop-number l = (i : ℕ) → i < l.number → tells_anew l.asked i (slice_get l.before i) (slice_get l.after i) ≡ false
