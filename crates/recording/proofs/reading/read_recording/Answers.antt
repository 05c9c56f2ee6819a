use Rattle.std.proofs.Common.{Ok, ap, arith, subst, sym, ◌∙◌}
use Rattle.std.proofs.lemmas.Result.{err_from_is_err_and}
use Rattle.recording.specs.Grammar.{IsRecording}
use Rattle.recording.specs.Recorded.{Recorded}
use Rattle.recording.specs.Views.{as_recorded}
use Rattle.recording.proofs.Read.{stands}
use Rattle.recording.proofs.Whole.{reading_again, reading_takes}
use Rattle.recording.proofs.reading.read_recording.Goals as goal

pub of-requires : goal.of-requires
of-requires c = (reading_takes c.args.text.now (as_recorded c.in_ok-read_fields.field-0) (λ i. omega (arith, c.type_inv.text i)) c.in_ok-read_fields.ensures).has

pub returns-in_err-read_fields-clause-only : goal.returns-in_err-read_fields-clause-only
returns-in_err-read_fields-clause-only c = λ r is.
    let p = err_from_is_err_and c.from_residual.result c.from_residual.ensures.1 in
    rw (p.1, p.2) (stands c.args.text.now c.in_err-read_fields.field-0.0 r c.in_err-read_fields.ensures is)

pub returns-clause-found : goal.returns-clause-found
returns-clause-found c =
    subst (λ (r : Recorded). IsRecording c.args.text.now r) (sym c.of.ensures)
    (reading_takes c.args.text.now (as_recorded c.in_ok-read_fields.field-0) (λ i. omega (arith, c.type_inv.text i)) c.in_ok-read_fields.ensures)

pub returns-clause-only : goal.returns-clause-only
returns-clause-only c = λ r is. sym (reading_again c.args.text.now r is) ∙ c.in_ok-read_fields.ensures ∙ ap (λ (x : Recorded). Ok x) (sym c.of.ensures)
