use Rattle.std.proofs.Common.{inl, inr, refl}
use Rattle.std.proofs.lemmas.Result.{IfErr-at_err, IfOk-at_ok}
use Rattle.program_files.proofs.Told.{on_error, told_refusal, told_value}
use Rattle.view_commands.proofs.Misnamed.{misnamed_so}
use Rattle.view_commands.proofs.guests.refused_for.Goals as goal

pub returns-in-Ok : goal.returns-in-Ok
returns-in-Ok c =
    let s = c.settings_of-settings.result in
    inr (inr (
      c.args.fault,
      refl,
      IfOk-at_ok _ c.in-Ok.is (told_value c.prepare-prepared.result c.explain.result _ c.explain.ensures
          (misnamed_so _ c.args.asked.now c.args.given.now.program.image.items c.args.given.now.plan.text.items c.args.given.now.plan.budget s c.args.fault c.prepare-prepared.result
          c.settings_of-settings.ensures c.prepare-prepared.ensures.machine (rw c.deref.ensures.value at c.prepare-prepared.ensures.in_order) c.requires)),
    ))

pub returns-in-Err : goal.returns-in-Err
returns-in-Err c =
    inr (inl (IfErr-at_err _ c.in-Err.is (told_refusal _ _ _ _ _ c.settings_of-settings.result c.prepare-prepared.result c.explain.result c.settings_of-settings.ensures c.explain.ensures
    (rw c.deref.ensures.value at c.prepare-prepared.ensures.in_order)
    (λ none. on_error c.prepare-prepared.result _ _ (λ e reason. inl reason) (rw c.deref.ensures.value at (c.prepare-prepared.ensures.errors none))))))
