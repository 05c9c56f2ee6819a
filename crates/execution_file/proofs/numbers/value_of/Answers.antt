use Rattle.std.proofs.Common.{arith, get_or, refl}
use Rattle.execution_file.proofs.Numerals.{value_done, value_more, value_over}
use Rattle.execution_file.proofs.numbers.value_of.Goals as goal

pub returns-in-None : goal.returns-in-None
returns-in-None c = λ small. value_over c.loop-digit.value (get_or c.args.digits.now c.loop-digit.digit-index 0) c.loop-digit.digit-index c.args.digits.now _ c.loop-digit-test.true refl c.in-None.ensures c.loop-digit.invariant.1 small

pub loop-digit-preserved : goal.loop-digit-preserved
loop-digit-preserved c = (omega (arith, c.in-Some.ensures.0, c.in-Some.ensures.1), value_more c.loop-digit.value c.in-Some.next (get_or c.args.digits.now c.loop-digit.digit-index 0) c.loop-digit.digit-index c.args.digits.now _ c.loop-digit-test.true refl c.in-Some.ensures.1 c.loop-digit.invariant.1)

pub returns : goal.returns
returns c = let e = value_done c.loop-digit.value c.loop-digit.digit-index c.args.digits.now _ c.loop-digit-test.false c.loop-digit.invariant.1 in (omega (arith, e, c.loop-digit.invariant.0), e)
