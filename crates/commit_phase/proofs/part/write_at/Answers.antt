use Rattle.std.proofs.Common.{arith, rules}
use Rattle.commit_phase.proofs.Lined.{index_ready, index_written}
use Rattle.commit_phase.proofs.part.write_at.Goals as goal

pub apply-requires-clause-ready : goal.apply-requires-clause-ready
apply-requires-clause-ready c = index_ready c.args.part.now c.args.start c.args.line.now c.args.index c.if-line-index-eq1.true c.requires.ready

pub returns-then-line-index-eq1 : goal.returns-then-line-index-eq1
returns-then-line-index-eq1 c =
    index_written c.args.part.now c.apply.new.self c.args.start c.args.line.now c.args.index c.from.result c.if-line-index-eq1.true (search rules) (search rules) (omega (arith, c.requires.index, c.requires.inside))
    (index_ready c.args.part.now c.args.start c.args.line.now c.args.index c.if-line-index-eq1.true c.requires.ready) c.apply.ensures.bytes c.apply.ensures.ready
