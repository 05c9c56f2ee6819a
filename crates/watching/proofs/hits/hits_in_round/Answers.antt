use Rattle.std.proofs.Common.{◌∙◌}
use Rattle.std.proofs.lemmas.Result.{IfOk-weaker}
use Rattle.watching.proofs.EventsTell.{found_in_round}
use Rattle.watching.proofs.hits.hits_in_round.Goals as goal

pub returns : goal.returns
returns c = λ code budget quotas s fit saved events.
    IfOk-weaker c.hits.result _ _
    (λ v p. p ∙ found_in_round code budget quotas s c.args.way c.args.watches.now c.args.saved.now c.args.trace.now.events c.deref.result.now fit saved events (c.deref.ensures.value ∙ c.in_ok-events.ensures))
    c.hits.ensures
