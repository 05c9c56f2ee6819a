use Rattle.guest_rounds.proofs.Listed.{KeepsAll}
use Rattle.guest_rounds.proofs.ready.make_ready.Given as goal

abbrev pub invariant-loop-end : goal.invariant-loop-end
invariant-loop-end l = KeepsAll l.fn.pages l.pages l.ends l.end-index
