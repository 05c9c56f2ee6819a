use Rattle.std.proofs.lemmas.Result.{IfOk-weaker}
use Rattle.guest_rounds.proofs.WholeHistories.{ends_of_whole}
use Rattle.guest_rounds.proofs.parallel.gather_ends.Goals as goal

pub returns : goal.returns
returns g c = IfOk-weaker c.take_ends-ends.result _ _ (λ os whole. ends_of_whole c.args.start.now os.items whole) c.take_ends-ends.ensures.ends
