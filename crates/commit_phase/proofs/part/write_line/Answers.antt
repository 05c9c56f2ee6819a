use Rattle.std.proofs.Common.{◌*◌}
use Rattle.store_buffer.specs.Lines.{whole_line}
use Rattle.commit_phase.specs.Writing.{word_bytes}
use Rattle.commit_phase.proofs.Lined.{words_first, words_next}
use Rattle.commit_phase.proofs.Writing.{writable_next, writing_begun, writing_past, writing_same}
use Rattle.commit_phase.proofs.part.write_line.Goals as goal

pub loop-k-init : goal.loop-k-init
loop-k-init c = record { writing = writing_begun c.args.part.now (whole_line c.args.start c.args.line.now) _ (words_first c.args.start c.args.line.now) c.requires.ready }

pub write_word-requires-clause-ready : goal.write_word-requires-clause-ready
write_word-requires-clause-ready c =
    let next = words_next c.args.start c.args.line.now c.loop-k.k c.loop-k-test.true in
    writable_next c.args.part.now c.loop-k.part (whole_line c.args.start c.args.line.now) (word_bytes c.args.start c.args.line.now (8 * c.loop-k.k)) _
    (writing_same c.args.part.now c.loop-k.part (whole_line c.args.start c.args.line.now) _ _ next c.loop-k.invariant.writing)

pub loop-k-preserved : goal.loop-k-preserved
loop-k-preserved c =
    let next = words_next c.args.start c.args.line.now c.loop-k.k c.loop-k-test.true in
    record {
      writing = writing_past c.args.part.now c.loop-k.part c.write_word.new.part (whole_line c.args.start c.args.line.now) (word_bytes c.args.start c.args.line.now (8 * c.loop-k.k)) _ c.write_word.ensures
          (writing_same c.args.part.now c.loop-k.part (whole_line c.args.start c.args.line.now) _ _ next c.loop-k.invariant.writing);
    }
