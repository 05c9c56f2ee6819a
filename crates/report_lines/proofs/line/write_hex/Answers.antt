use Rattle.std.proofs.Common.{◌∙◌, sym, arith}
use Rattle.std.proofs.lemmas.List.{length-set}
use Rattle.report_lines.proofs.Digits.{last_digit, next_pair, none_left}
use Rattle.report_lines.proofs.line.write_hex.Goals as goal

pub bounds-buffer-index : goal.bounds-buffer-index
bounds-buffer-index c = omega (arith, c.loop-index-test.true, c.loop-index.invariant.within, c.loop-index.invariant.size)

pub loop-index-preserved : goal.loop-index-preserved
loop-index-preserved c = record {
  size = length-set _ _ _ ∙ length-set _ _ _ ∙ c.loop-index.invariant.size;
  within = omega (arith, c.loop-index.invariant.within);
  digits = next_pair c.loop-index.index c.loop-index.rest c.digits_of-high.result.0 c.digits_of-high.result.1 c.loop-index.buffer _ c.loop-index-test.true
      (omega (arith, c.loop-index.invariant.within, c.loop-index.invariant.size)) c.digits_of-high.ensures.high c.digits_of-high.ensures.low c.loop-index.invariant.digits;
}

pub returns-then-index-eq1 : goal.returns-then-index-eq1
returns-then-index-eq1 c =
    last_digit c.loop-index.index c.loop-index.rest c.digits_of-low.result.1 c.loop-index.buffer _ c.if-index-eq1.true
    (omega (arith, c.loop-index.invariant.within, c.loop-index.invariant.size)) c.digits_of-low.ensures.low c.loop-index.invariant.digits

pub returns-else-index-eq1 : goal.returns-else-index-eq1
returns-else-index-eq1 c =
    sym (c.loop-index.invariant.digits ∙ none_left c.loop-index.index c.loop-index.rest c.loop-index.buffer (omega (arith, c.loop-index-test.false, c.if-index-eq1.false)))
