use Rattle.std.proofs.Common.{◌≡◌, ◌++◌, ◌+◌, drop}
use Rattle.fence_table.specs.Text.{missing_texts}
use Rattle.fence_table.proofs.writing.missing.add_each_missing.Given as goal

abbrev pub invariant-loop-index : goal.invariant-loop-index
invariant-loop-index l = l.line ++ missing_texts l.ranges (l.index + 1) (drop l.index l.all) ≡ l.fn.line ++ missing_texts l.ranges 1 l.all
