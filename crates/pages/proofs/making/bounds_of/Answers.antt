use Rattle.std.proofs.Common.{rules}
use Rattle.pages.proofs.CodeTests.{bounds_more}
use Rattle.pages.proofs.making.bounds_of.Goals as goal

pub loop-range-preserved : goal.loop-range-preserved
loop-range-preserved c = record {
  within = bounds_more c.args.code.now c.loop-range.range-index c.loop-range.start c.loop-range.end c.min-start.result c.max-end.result (record { start = 0; len = 0 }) c.loop-range-test.true (search rules) (search rules) (search rules) c.loop-range.invariant.within;
  below = search rules;
}
