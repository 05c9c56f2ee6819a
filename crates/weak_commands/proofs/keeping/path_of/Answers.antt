use Rattle.std.proofs.lemmas.Result.{IfOk-weaker}
use Rattle.weak_commands.proofs.keeping.path_of.Goals as goal

pub returns : goal.returns
returns c = IfOk-weaker c.format.result _ _ (λ s h. h) c.format.ensures.ok
