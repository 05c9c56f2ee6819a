use Rattle.std.proofs.Common.{rules, append_assoc}
use Rattle.report_lines.specs.Text.{hart_text}
use Rattle.report_lines.proofs.harts.hart_lines.Goals as goal

pub returns : goal.returns
unfolding hart_text
returns c = search (rules, append_assoc)
