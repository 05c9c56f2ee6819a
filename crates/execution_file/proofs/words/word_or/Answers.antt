use Rattle.execution_file.proofs.WordLoops.{word_cut}
use Rattle.execution_file.proofs.words.word_or.Goals as goal

pub returns-in_default : goal.returns-in_default
returns-in_default c = rw c.refused.ensures (word_cut c.args.short c.args.wrong c.args.word.now c.loop-byte.byte-index c.loop-byte.rest.now _ c.loop-byte-test.true c.in_default.ensures.cases c.loop-byte.invariant)
