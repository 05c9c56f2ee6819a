use Rattle.std.proofs.lemmas.Result.{IfOk-weaker}
use Rattle.fence_trials.specs.Trials.{WasTried}
use Rattle.fence_trials.proofs.Slots.{in_slots}
use Rattle.fence_trials.proofs.working.try_block.Goals as goal

pub returns-clause-tried : goal.returns-clause-tried
returns-clause-tried g c =
    IfOk-weaker c.make_each.result _ _ (λ v made. in_slots (WasTried (g.E.Executer.comes_to c.args.guest.now) c.args.ordinary.now) v.items made) c.make_each.ensures.made
