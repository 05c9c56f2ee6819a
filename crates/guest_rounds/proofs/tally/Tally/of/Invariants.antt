use Rattle.std.proofs.Common.{◌-◌, drop}
use Rattle.guest_rounds.proofs.Tallied.{IsTally}
use Rattle.guest_rounds.proofs.tally.Tally.of.Given as goal

abbrev pub invariant-loop-behind : goal.invariant-loop-behind
invariant-loop-behind l = IsTally (drop (l.count - l.behind) l.ends) l.tally
