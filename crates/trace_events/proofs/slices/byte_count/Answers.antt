use Rattle.std.proofs.Common.{refl}
use Rattle.std.specs.Fmt.{digits}
use Rattle.trace_events.proofs.slices.byte_count.Goals as goal

pub returns-in-W1 : goal.returns-in-W1
unfolding digits
returns-in-W1 c = rw c.in-W1.is refl

pub returns-in-W2 : goal.returns-in-W2
unfolding digits
returns-in-W2 c = rw c.in-W2.is refl

pub returns-in-W4 : goal.returns-in-W4
unfolding digits
returns-in-W4 c = rw c.in-W4.is refl

pub returns-in-W8 : goal.returns-in-W8
unfolding digits
returns-in-W8 c = rw c.in-W8.is refl
