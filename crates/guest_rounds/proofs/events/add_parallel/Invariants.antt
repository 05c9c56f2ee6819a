use Rattle.guest_rounds.proofs.Adding.{Adding}
use Rattle.guest_rounds.proofs.events.add_parallel.Given as goal

abbrev pub invariant-loop-number : goal.invariant-loop-number
invariant-loop-number l = Adding l.adopts l.round l.fn.ends l.fn.trace l.number l.ends l.trace
