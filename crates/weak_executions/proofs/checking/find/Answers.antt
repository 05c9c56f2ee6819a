use Rattle.std.proofs.Common.{◌∙◌}
use Rattle.weak_executions.proofs.checking.find.Goals as goal

pub returns : goal.returns
returns c = (
  c.in_ok-verdict.ensures,
  c.in_ok-harts.ensures.items ∙ c.harts.ensures.harts,
  c.in_ok-output.ensures.items ∙ c.output.ensures,
)
