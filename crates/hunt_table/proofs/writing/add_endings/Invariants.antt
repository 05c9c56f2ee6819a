use Rattle.std.proofs.Common.{◌≡◌, ◌++◌, ◌+◌, drop}
use Rattle.hunt_table.specs.Text.{endings_text}
use Rattle.hunt_table.proofs.writing.add_endings.Given as goal

abbrev pub invariant-loop-index : goal.invariant-loop-index
invariant-loop-index l = l.line ++ endings_text l.form.is_weak l.form.is_marked l.form.ranges.now (l.index + 1) (drop l.index l.rows) ≡ l.fn.line ++ endings_text l.form.is_weak l.form.is_marked l.form.ranges.now 1 l.rows
