use Rattle.std.proofs.Common.{◌≡◌, ◌++◌, drop, map}
use Rattle.execution_file.specs.Grammar.{hart_lines}
use Rattle.execution_file.specs.Formats.{spelled_each}
use Rattle.execution_file.specs.Views.{hart_view}
use Rattle.execution_file.proofs.writing.put_each_hart.Given as goal

abbrev pub invariant-loop-index : goal.invariant-loop-index
invariant-loop-index l = l.text.items ++ spelled_each l.index hart_lines (drop l.index (map hart_view l.harts)) ≡ l.fn.text.items ++ spelled_each 0 hart_lines (map hart_view l.harts)
