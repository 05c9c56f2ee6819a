use Rattle.std.proofs.Common.{◌∙◌, ap, refl}
use Rattle.std.proofs.lemmas.List.{take_all}
use Rattle.report_lines.specs.Rows.{all_zero}
use Rattle.report_lines.proofs.Zeros.{zeros_more}
use Rattle.report_lines.proofs.rows.is_zero.Goals as goal

pub loop-byte-preserved : goal.loop-byte-preserved
loop-byte-preserved c = zeros_more c.args.bytes.now c.loop-byte.byte-index c.loop-byte.joined _ c.loop-byte-test.true refl c.loop-byte.invariant

pub returns : goal.returns
returns c = c.loop-byte.invariant ∙ ap all_zero (take_all c.loop-byte.byte-index c.args.bytes.now c.loop-byte-test.false)
