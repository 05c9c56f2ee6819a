use Rattle.all_endings.proofs.Judging.{judged_count}
use Rattle.all_endings.proofs.laws.judged_executions_count.Goals as goal

pub returns : goal.returns
returns c = judged_count
