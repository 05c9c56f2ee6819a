use Rattle.std.proofs.Common.{◌≡◌, ◌++◌, drop}
use Rattle.endings_table.specs.Text.{end_lines}
use Rattle.endings_table.proofs.writing.endings.add_ends.Given as goal

abbrev pub invariant-loop-hart : goal.invariant-loop-hart
invariant-loop-hart l = l.line ++ end_lines l.hart (drop l.hart l.ends) ≡ l.fn.line ++ end_lines 0 l.ends
