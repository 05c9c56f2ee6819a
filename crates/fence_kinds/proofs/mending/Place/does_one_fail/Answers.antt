use Rattle.fence_kinds.proofs.Mended.{none_unless}
use Rattle.fence_kinds.proofs.mending.Place.does_one_fail.Goals as goal

pub returns-clause-none : goal.returns-clause-none
returns-clause-none g c = none_unless (g.E.Executer.comes_to c.args.fenced.now) c.args.self.now c.in_ok-trials.trials c.in_ok-trials.ensures
