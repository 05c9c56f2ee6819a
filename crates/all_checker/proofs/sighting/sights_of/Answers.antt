use Rattle.std.proofs.lemmas.Result.{IfOk-weaker}
use Rattle.all_checker.proofs.sighting.sights_of.Goals as goal

pub returns-clause-sights : goal.returns-clause-sights
returns-clause-sights g c =
    IfOk-weaker c.make_each.result _ _ (λ v made. λ j x d at. made j x at d) c.make_each.ensures.made
