use Rattle.guest_rounds.proofs.AtRest.{Given}
use Rattle.guest_rounds.proofs.parallel.give_harts.Given as goal

abbrev pub invariant-loop-number : goal.invariant-loop-number
invariant-loop-number l = Given l.ends l.fn.harts l.number l.harts
