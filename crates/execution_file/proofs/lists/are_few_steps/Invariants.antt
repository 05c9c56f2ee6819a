use Rattle.std.proofs.Common.{◌≡◌, drop, leb, map}
use Rattle.execution_file.specs.Recorded.{steps_of}
use Rattle.execution_file.specs.Grammar.{are_few_steps}
use Rattle.execution_file.specs.Views.{hart_view}
use Rattle.execution_file.proofs.lists.are_few_steps.Given as goal

abbrev pub invariant-loop-i : goal.invariant-loop-i
invariant-loop-i l = leb (steps_of (drop l.i (map hart_view l.harts))) l.left ≡ are_few_steps (map hart_view l.harts)
