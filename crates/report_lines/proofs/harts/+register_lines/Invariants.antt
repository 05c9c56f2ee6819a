use Rattle.std.proofs.Common.{length}
use Rattle.report_lines.proofs.harts.+register_lines.Given as goal

abbrev pub decreases-register_lines : goal.decreases-register_lines
decreases-register_lines l = length l.values.now
