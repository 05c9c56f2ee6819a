use Rattle.std.proofs.Common.{get_or, refl, arith}
use Rattle.elf_loader.proofs.Reading.{no_segment, one_more_piece}
use Rattle.elf_loader.proofs.elf.pieces_of.Goals as goal

pub loop-segment-preserved : goal.loop-segment-preserved
loop-segment-preserved c =
    one_more_piece c.args.file.now c.args.segments.now c.loop-segment.pieces.items c.push.new.self.items c.loop-segment.segment-index
    (get_or c.args.segments.now c.loop-segment.segment-index no_segment) _ (omega (arith, c.loop-segment-test.true)) refl
    c.loop-segment.invariant c.in_ok-push.ensures.items refl c.in_ok-from_slice.ensures.items
