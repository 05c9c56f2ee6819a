use Rattle.std.proofs.Common.{append_assoc}
use Rattle.report_lines.proofs.events.operands.Goals as goal

pub returns-clause-text : goal.returns-clause-text
returns-clause-text c = simp append_assoc (cc)
