use Rattle.std.proofs.lemmas.Result.{IfOk-weaker}
use Rattle.replayer.proofs.Begun.{is_of_inputs}
use Rattle.replayer.proofs.opened.opened_untraced.Goals as goal

pub returns-clause-machine : goal.returns-clause-machine
returns-clause-machine c =
    let said = c.settings_of-settings.ensures in
    IfOk-weaker c.prepare_untraced.result _ _
    (λ u made. is_of_inputs c.settings_of-settings.result c.args.recording.now c.image.result.now c.input.result.now u said.format said.machine said.rounds.1 said.plan c.image.ensures c.input.ensures made)
    c.prepare_untraced.ensures.machine
