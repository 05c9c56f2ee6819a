use Rattle.std.proofs.Common.{◌≡◌}
use Rattle.guest_rounds.proofs.keeper.share_logs.Given as goal

abbrev pub invariant-loop-number : goal.invariant-loop-number
invariant-loop-number l = l.ends ≡ l.fn.ends
