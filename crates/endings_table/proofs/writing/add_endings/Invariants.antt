use Rattle.std.proofs.Common.{◌≡◌, ◌++◌, ◌+◌, drop}
use Rattle.endings_table.specs.Text.{endings_text}
use Rattle.endings_table.proofs.writing.add_endings.Given as goal

abbrev pub invariant-loop-index : goal.invariant-loop-index
invariant-loop-index l = l.line ++ endings_text l.ranges (l.index + 1) (drop l.index l.endings) ≡ l.fn.line ++ endings_text l.ranges 1 l.endings
