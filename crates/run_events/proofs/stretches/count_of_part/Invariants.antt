use Rattle.std.proofs.Common.{◌≡◌, ◌+◌, drop}
use Rattle.std.specs.List.{prefix_len}
use Rattle.run_events.specs.Parts.{is_of_part}
use Rattle.run_events.proofs.stretches.count_of_part.Given as goal

-- so far each is
abbrev pub invariant-loop-number : goal.invariant-loop-number
invariant-loop-number l = l.number + prefix_len (is_of_part l.hart) (drop l.number l.events) ≡ prefix_len (is_of_part l.hart) l.events
