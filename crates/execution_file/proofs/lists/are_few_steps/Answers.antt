use Rattle.std.proofs.Common.{map}
use Rattle.execution_file.specs.Grammar.{are_few_steps}
use Rattle.execution_file.specs.Views.{hart_view}
use Rattle.execution_file.proofs.Steps.{steps_left, steps_pass}
use Rattle.execution_file.proofs.lists.are_few_steps.Goals as goal

pub returns-then-steps-left : goal.returns-then-steps-left
returns-then-steps-left c =
    steps_pass c.args.harts.now c.loop-i.i c.loop-i.left c.index-harts-i.result (are_few_steps (map hart_view c.args.harts.now)) c.loop-i-test.true c.if-steps-left.true c.loop-i.invariant

pub loop-i-preserved : goal.loop-i-preserved
loop-i-preserved c =
    steps_left c.args.harts.now c.loop-i.i c.loop-i.left c.index-harts-i.result (are_few_steps (map hart_view c.args.harts.now)) c.loop-i-test.true c.if-steps-left.false c.loop-i.invariant
