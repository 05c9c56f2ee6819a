use Rattle.std.proofs.Common.{◌≡◌, ◌∙◌, None, Option, Some, ap, sym}
use Rattle.emulation.specs.declared.showing.ShownState.{ShownState}
use Rattle.host_io.proofs.Answered.{in_words}
use Rattle.run_commands.specs.Printed.{shown_of, text_of}
use Rattle.run_commands.proofs.running.print_guest.Goals as goal

pub returns-in-Some-clause-writes : goal.returns-in-Some-clause-writes
returns-in-Some-clause-writes g c =
    let s = c.args.settings.now in
    let asked = c.args.asked.now in
    let guest = c.args.guest.now in
    let h : shown_of asked.show asked.no_trace ≡ Some c.in-Some.shown = sym c.shown_of.ensures ∙ c.in-Some.is in
    in_words c.show_run.result (λ end text is. record {
      plan = is.plan;
      planned = is.planned;
      is_text = is.is_text ∙ ap (λ (o : Option ShownState). text_of o s guest.image.now guest.input.now is.plan) (sym h);
      is_end = is.is_end;
    }) (λ e reason. reason) c.show_run.ensures.writes

pub returns-in-None-clause-writes : goal.returns-in-None-clause-writes
returns-in-None-clause-writes g c =
    let s = c.args.settings.now in
    let asked = c.args.asked.now in
    let guest = c.args.guest.now in
    let h : shown_of asked.show asked.no_trace ≡ None = sym c.shown_of.ensures ∙ c.in-None.is in
    in_words c.report_run.result (λ end text is. record {
      plan = is.plan;
      planned = is.planned;
      is_text = is.is_text ∙ ap (λ (o : Option ShownState). text_of o s guest.image.now guest.input.now is.plan) (sym h);
      is_end = is.is_end;
    }) (λ e reason. reason) c.report_run.ensures.writes
