use Rattle.std.proofs.Common.{◌≡◌, ◌++◌}
use Rattle.report_lines.specs.Rows.{memory_rows}
use Rattle.report_lines.proofs.rows.page_rows.Given as goal

abbrev pub invariant-loop-row : goal.invariant-loop-row
invariant-loop-row l = l.line ≡ l.fn.line ++ memory_rows l.address l.page l.row
