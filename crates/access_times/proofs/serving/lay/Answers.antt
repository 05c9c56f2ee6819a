use Rattle.execution.proofs.Liking.{shows_laid}
use Rattle.access_times.proofs.serving.lay.Goals as goal

pub returns : goal.returns
returns c = shows_laid c.in_ok-_fault._fault c.args.number _ _ c.in_ok-_fault.ensures.ok
