use Rattle.std.proofs.Common.{inl}
use Rattle.program_files.proofs.Told.{on_error, on_value, told_refusal, told_value}
use Rattle.run_commands.proofs.making.record_given.Goals as goal

pub returns-clause-records : goal.returns-clause-records
returns-clause-records g c =
    told_value _ c.explain.result _ c.explain.ensures (on_value c.record_guest-answer.result _ _ (λ recorded r. (
      record { settings = c.settings_of-settings.result; plan = r.0; set = c.settings_of-settings.ensures; planned = r.1 },
      r.2,
      r.3,
      r.4,
    )) (rw (c.guest_files-guest.ensures.image, c.guest_files-guest.ensures.input) at c.record_guest-answer.ensures.records))

pub returns-clause-errors : goal.returns-clause-errors
returns-clause-errors g c =
    told_refusal _ _ _ _ _ c.settings_of-settings.result c.record_guest-answer.result c.explain.result c.settings_of-settings.ensures c.explain.ensures
    (rw c.guest_files-guest.ensures.image at c.record_guest-answer.ensures.in_order)
    (λ none. on_error c.record_guest-answer.result _ _ (λ e reason. inl reason) (rw c.guest_files-guest.ensures.image at (c.record_guest-answer.ensures.errors none)))
