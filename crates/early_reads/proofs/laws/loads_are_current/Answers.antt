use Rattle.early_reads.proofs.Behind.{are_current}
use Rattle.early_reads.proofs.laws.loads_are_current.Goals as goal

pub returns : goal.returns
returns c = are_current
