use Rattle.std.proofs.Common.{append_assoc}
use Rattle.report_lines.specs.Text.{event_text}
use Rattle.report_lines.proofs.events.columns.Goals as goal

pub returns-clause-text : goal.returns-clause-text
unfolding event_text
returns-clause-text c = simp append_assoc (cc)
