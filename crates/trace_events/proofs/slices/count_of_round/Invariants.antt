use Rattle.std.proofs.Common.{◌≡◌, ◌+◌, ◌≤◌, drop, length, take_while}
use Rattle.trace_events.specs.Slices.{same_round}
use Rattle.trace_events.proofs.slices.count_of_round.Given as goal

-- those so far, and the ones that are left, are all
abbrev pub invariant-loop-other : goal.invariant-loop-other
invariant-loop-other l = record {
  sum : l.count + length (take_while (same_round l.event) (drop l.other-index l.rest)) ≡ length (take_while (same_round l.event) l.rest) + 1;
  few : l.count ≤ l.other-index + 1;
}
