use Rattle.std.proofs.Common.{arith}
use Rattle.commit_phase.proofs.Lined.{nothing_written, word_none, word_ready, word_written}
use Rattle.commit_phase.proofs.part.write_word.Goals as goal

pub returns-then-cover-eq0 : goal.returns-then-cover-eq0
returns-then-cover-eq0 c = nothing_written c.args.part.now _ (word_none c.args.start c.args.line.now c.args.index c.if-cover-eq0.true)

pub apply-requires-clause-ready : goal.apply-requires-clause-ready
apply-requires-clause-ready c = word_ready c.args.part.now c.args.start c.args.line.now c.args.index c.if-cover-eq255.true c.requires.ready

pub returns-then-cover-eq255 : goal.returns-then-cover-eq255
returns-then-cover-eq255 c =
    let index = c.requires.index in
    word_written c.args.part.now c.apply.new.self c.args.start c.args.line.now c.args.index c.number_in.result c.if-cover-eq255.true c.number_in.ensures.bytes c.number_in.ensures.value (omega (arith, index.1, c.requires.inside))
    (word_ready c.args.part.now c.args.start c.args.line.now c.args.index c.if-cover-eq255.true c.requires.ready) c.apply.ensures.bytes c.apply.ensures.ready
