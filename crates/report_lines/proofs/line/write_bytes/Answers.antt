use Rattle.std.proofs.Common.{◌∙◌, ◌*◌, ap, arith, sym}
use Rattle.std.proofs.lemmas.List.{length-set, take_all}
use Rattle.report_lines.specs.Text.{bytes_text}
use Rattle.report_lines.proofs.Pairs.{pair_more}
use Rattle.report_lines.proofs.line.write_bytes.Goals as goal

pub loop-index-preserved : goal.loop-index-preserved
loop-index-preserved c = record {
  size = length-set _ _ _ ∙ length-set _ _ _ ∙ c.loop-index.invariant.size;
  text = pair_more c.args.bytes.now c.loop-index.buffer c.loop-index.index _ _ c.loop-index-test.true (omega (arith, c.requires, c.loop-index.invariant.size)) (omega (arith, c.type_inv.bytes c.loop-index.index)) c.digits_of-high.ensures.high c.digits_of-high.ensures.low c.loop-index.invariant.text;
}

pub returns : goal.returns
returns c =
    sym (take_all (2 * c.loop-index.index) c.loop-index.buffer (omega (arith, c.loop-index.invariant.size, c.requires, c.loop-index-test.false)))
    ∙ c.loop-index.invariant.text ∙ ap bytes_text (take_all c.loop-index.index c.args.bytes.now c.loop-index-test.false)
