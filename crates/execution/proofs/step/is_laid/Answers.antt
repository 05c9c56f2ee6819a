use Rattle.execution.proofs.Liking.{like_laid, shows_laid}
use Rattle.execution.proofs.step.is_laid.Goals as goal

pub returns-clause-like : goal.returns-clause-like
returns-clause-like c = like_laid c.in_ok-fault.fault _ _ _ c.in_ok-fault.ensures.ok

pub returns-clause-shows : goal.returns-clause-shows
returns-clause-shows c = shows_laid c.in_ok-fault.fault _ _ _ c.in_ok-fault.ensures.ok
