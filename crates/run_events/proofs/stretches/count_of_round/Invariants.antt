use Rattle.std.proofs.Common.{◌≡◌, ◌+◌, ◌==◌, drop}
use Rattle.std.specs.List.{prefix_len}
use Rattle.run_events.proofs.stretches.count_of_round.Given as goal

-- so far each is
abbrev pub invariant-loop-number : goal.invariant-loop-number
invariant-loop-number l = l.number + prefix_len (λ e. e.round == l.round) (drop l.number l.events) ≡ prefix_len (λ e. e.round == l.round) l.events
