use Rattle.std.proofs.Common.{inl, inr, refl, ⊎_elim}
use Rattle.std.proofs.lemmas.Result.{err_from_is_err_and}
use Rattle.round_planner.specs.Settings.{IsReason, settings_fault}
use Rattle.host_io.proofs.Answered.{fault_or, in_words, refused_first}
use Rattle.emulation.proofs.showing.show_run.Goals as goal

pub returns-in_err-machine-clause-writes : goal.returns-in_err-machine-clause-writes
returns-in_err-machine-clause-writes g c =
    let s = c.args.settings.now in
    let p = err_from_is_err_and c.from_residual.result c.from_residual.ensures.1 in
    rw (p.1, p.2)
    (refused_first _ (fault_or (settings_fault s) (IsReason s c.args.files.now.image.now) _ c.in_err-machine.ensures.in_order.settings c.in_err-machine.ensures.errors) refl)

pub show_rounds-answer-requires-clause-opened : goal.show_rounds-answer-requires-clause-opened
show_rounds-answer-requires-clause-opened g c = λ lifetimes within. c.in_ok-machine.ensures.machine.2.rounds

pub returns-clause-writes : goal.returns-clause-writes
returns-clause-writes g c =
    let made = c.in_ok-machine.ensures.machine in
    in_words c.show_rounds-answer.result (λ end text is. record { plan = made.0; planned = made.1; is_text = is.0; is_end = is.1 }) (λ e memory. inr (inl memory))
    (c.show_rounds-answer.ensures.writes _ made.2)

pub returns-clause-waits : goal.returns-clause-waits
returns-clause-waits g c =
    let made = c.in_ok-machine.ensures.machine in
    ⊎_elim (λ same. inl same) (λ seen. inr (record { plan = made.0; planned = made.1; start = c.in_ok-machine.machine; opens = made.2; seen = seen }))
    c.show_rounds-answer.ensures.waits
