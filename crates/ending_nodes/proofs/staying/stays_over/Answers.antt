use Rattle.ending_nodes.proofs.staying.stays_over.Goals as goal

pub returns-then-not-stays_at : goal.returns-then-not-stays_at
returns-then-not-stays_at c = λ no stay x has met. let e = c.stays_at.ensures in let f = c.if-not-stays_at.true in cc

pub returns : goal.returns
returns c = λ no stay x has met. let d = c.are_met.ensures no x has in cc
