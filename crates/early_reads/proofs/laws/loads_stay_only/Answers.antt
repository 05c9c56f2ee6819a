use Rattle.early_reads.proofs.Behind.{stay_only}
use Rattle.early_reads.proofs.laws.loads_stay_only.Goals as goal

pub returns : goal.returns
returns c = stay_only
