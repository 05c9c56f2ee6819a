use Rattle.early_reads.proofs.Behind.{late_open}
use Rattle.early_reads.proofs.laws.late_operations_open.Goals as goal

pub returns : goal.returns
returns c = late_open
