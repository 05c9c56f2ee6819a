use Rattle.std.proofs.Common.{◌-◌, arith}
use Rattle.std.proofs.lemmas.Result.{IfOk-weaker}
use Rattle.machine.specs.Machine.{after_rounds}
use Rattle.replayer.proofs.PlaceSought.{asked_there}
use Rattle.replayer.proofs.placing.hart_from.Goals as goal

pub returns-clause-hart : goal.returns-clause-hart
returns-clause-hart g c = λ m rounds is few.
    IfOk-weaker c.hart_in_round.result _ _
    (λ h e. asked_there rounds (c.args.round - 1 - c.rounds.result) m c.args.last c.args.round c.args.hart c.args.count h (omega (arith, c.requires.behind)) few (omega (arith, c.requires.behind, c.rounds.ensures)) e)
    (c.hart_in_round.ensures.hart (after_rounds c.args.last.rounds m) is)
