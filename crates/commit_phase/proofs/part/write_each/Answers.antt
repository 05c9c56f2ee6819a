use Rattle.std.proofs.Common.{◌+◌, ◌-◌, arith}
use Rattle.store_buffer.specs.Lines.{line_bytes}
use Rattle.commit_phase.specs.Writing.{index_bytes, word_bytes}
use Rattle.commit_phase.proofs.Lined.{indices_first, indices_next}
use Rattle.commit_phase.proofs.Writing.{writable_next, writing_begun, writing_past, writing_same}
use Rattle.commit_phase.proofs.part.write_each.Goals as goal

pub loop-j-init : goal.loop-j-init
loop-j-init c = record { writing = writing_begun c.args.part.now (word_bytes c.args.start c.args.line.now c.args.index) (line_bytes c.args.start c.args.line.now c.args.index (c.args.index + 8 - c.args.index)) (indices_first c.args.start c.args.line.now c.args.index) c.requires.ready }

pub write_at-requires-clause-ready : goal.write_at-requires-clause-ready
write_at-requires-clause-ready c =
    let next = indices_next c.args.start c.args.line.now c.args.index c.loop-j.j (omega arith) in
    writable_next c.args.part.now c.loop-j.part (word_bytes c.args.start c.args.line.now c.args.index) (index_bytes c.args.start c.args.line.now c.loop-j.j) _
    (writing_same c.args.part.now c.loop-j.part (word_bytes c.args.start c.args.line.now c.args.index) _ _ next c.loop-j.invariant.writing)

pub loop-j-preserved : goal.loop-j-preserved
loop-j-preserved c =
    let next = indices_next c.args.start c.args.line.now c.args.index c.loop-j.j (omega arith) in
    record {
      writing = writing_past c.args.part.now c.loop-j.part c.write_at.new.part (word_bytes c.args.start c.args.line.now c.args.index) (index_bytes c.args.start c.args.line.now c.loop-j.j) _ c.write_at.ensures
          (writing_same c.args.part.now c.loop-j.part (word_bytes c.args.start c.args.line.now c.args.index) _ _ next c.loop-j.invariant.writing);
    }
