use Rattle.machine.specs.Machine.{opening}
use Rattle.round_planner.specs.Settings.{image_for}
use Rattle.program_files.proofs.Told.{on_value}
use Rattle.program_files.proofs.needed.needed_rounds.Goals as goal

pub returns-clause-needed : goal.returns-clause-needed
returns-clause-needed g c =
    let made = c.in_ok-machine.ensures.machine in
    let start = opening (image_for c.args.settings.now c.args.files.now.image.now) c.args.files.now.input.now made.0 in
    on_value c.count_needed-needed.result _ _ (λ n h. record { plan = made.0; planned = made.1; needed = h }) (c.count_needed-needed.ensures.needed start made.2)
