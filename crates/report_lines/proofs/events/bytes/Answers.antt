use Rattle.std.proofs.Common.{refl}
use Rattle.std.specs.Fmt.{digits}
use Rattle.report_lines.proofs.events.bytes.Goals as goal

pub returns-in-W1-clause-text : goal.returns-in-W1-clause-text
unfolding digits
returns-in-W1-clause-text c = rw c.in-W1.is refl

pub returns-in-W2-clause-text : goal.returns-in-W2-clause-text
unfolding digits
returns-in-W2-clause-text c = rw c.in-W2.is refl

pub returns-in-W4-clause-text : goal.returns-in-W4-clause-text
unfolding digits
returns-in-W4-clause-text c = rw c.in-W4.is refl

pub returns-in-W8-clause-text : goal.returns-in-W8-clause-text
unfolding digits
returns-in-W8-clause-text c = rw c.in-W8.is refl
