use Rattle.program_files.proofs.Told.{in_order_at, on_error, on_value}
use Rattle.run_commands.proofs.making.record_guest.Goals as goal

pub returns-in-Ok-clause-records : goal.returns-in-Ok-clause-records
returns-in-Ok-clause-records g c =
    on_value c.record_observed.result _ _ (λ recorded r. (r.0, r.1, c.in-Ok.rounds, c.in-Ok.ensures.rounds, r.2)) c.record_observed.ensures.recording

pub returns-in-Ok-clause-in_order : goal.returns-in-Ok-clause-in_order
returns-in-Ok-clause-in_order g c =
    let order = c.record_observed.ensures.in_order in
    record { settings = order.settings; image = order.image; plan = order.plan }

pub returns-in-Ok-clause-errors : goal.returns-in-Ok-clause-errors
returns-in-Ok-clause-errors g c = λ none. on_error c.record_observed.result _ _ (λ e reason. reason) (c.record_observed.ensures.errors none)

pub returns-in-Err-clause-in_order : goal.returns-in-Err-clause-in_order
returns-in-Err-clause-in_order g c = in_order_at c.args.settings.now c.args.guest.now.image.now c.in-Err.error c.in-Err.ensures.in_order
