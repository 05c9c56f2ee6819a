use Rattle.std.proofs.Common.{ap, inl, inr, refl, subst, ◌∙◌, ⊎_elim}
use Rattle.std.proofs.lemmas.Result.{err_from_is_err_and}
use Rattle.emulation.specs.Showing.{end_of}
use Rattle.machine.specs.Machine.{Running, after_rounds}
use Rattle.machine.specs.Untraced.{IsUntraced}
use Rattle.report.specs.Report.{report_of}
use Rattle.round_planner.specs.Settings.{IsReason, settings_fault}
use Rattle.host_io.proofs.Answered.{fault_or, in_words, refused_first}
use Rattle.emulation.proofs.showing.report_run.Goals as goal

pub returns-in_err-machine-clause-writes : goal.returns-in_err-machine-clause-writes
returns-in_err-machine-clause-writes g c =
    let s = c.args.settings.now in
    let p = err_from_is_err_and c.from_residual.result c.from_residual.ensures.1 in
    rw (p.1, p.2)
    (refused_first _ (fault_or (settings_fault s) (IsReason s c.args.files.now.image.now) _ c.in_err-machine.ensures.in_order.settings c.in_err-machine.ensures.errors) refl)

pub returns-clause-writes : goal.returns-clause-writes
returns-clause-writes g c =
    let made = c.in_ok-machine.ensures.machine in
    let after = ap (after_rounds c.args.settings.now.rounds) made.2 in
    in_words c.report_rounds-answer.result
    (λ end text is. record {
      plan = made.0;
      planned = made.1;
      is_text = is.0 ∙ ap (λ (m : Running). report_of m.state) after;
      is_end = is.1 ∙ ap (λ (m : Running). end_of m.state.harts) after;
    })
    (λ e memory. inr (inl memory)) c.report_rounds-answer.ensures.writes

pub returns-clause-waits : goal.returns-clause-waits
returns-clause-waits g c =
    let made = c.in_ok-machine.ensures.machine in
    ⊎_elim (λ same. inl same) (λ k. inr (record { plan = made.0; planned = made.1; start = k.0; opens = subst (λ (m : Running). IsUntraced m k.0) made.2 k.1; seen = k.2 }))
    c.report_rounds-answer.ensures.waits
