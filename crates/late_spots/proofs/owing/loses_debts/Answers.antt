use Rattle.late_spots.specs.Onward.{by-branch, by-touch}
use Rattle.late_spots.proofs.owing.loses_debts.Goals as goal

pub returns-then-touches_owed : goal.returns-then-touches_owed
returns-then-touches_owed c = λ held. let t = c.touches_owed.ensures c.if-touches_owed.true in by-touch t.0 t.1

pub returns : goal.returns
returns c = λ held. by-branch (c.owes_some.ensures c.if-not-owes_some.false) (c.is_branched_on.ensures held)
