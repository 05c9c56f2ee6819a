use Rattle.std.proofs.Common.{sym, ◌∙◌}
use Rattle.std.proofs.lemmas.Bool.{not-true}
use Rattle.early_reads.proofs.LeftOut.{some_both, some_load, some_store}
use Rattle.early_reads.proofs.early_bytes.leaves_some.Goals as goal

pub returns-then-not-is_all : goal.returns-then-not-is_all
returns-then-not-is_all c = λ held. some_load c.args.sets.now (sym c.is_all.ensures.is ∙ c.if-not-is_all.true)

pub returns-then-not-is_all-2 : goal.returns-then-not-is_all-2
returns-then-not-is_all-2 c = λ held. some_store c.args.sets.now (sym c.is_all-2.ensures.is ∙ c.if-not-is_all-2.true)

pub returns : goal.returns
returns c = λ held. some_both c.args.sets.now (sym c.is_all-3.ensures.is ∙ not-true c.is_all-3.result held)
