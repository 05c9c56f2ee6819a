use Rattle.std.proofs.Common.{◌≡◌, None, Option, inl, inr, refl, subst, ⊎_elim}
use Rattle.program_files.specs.declared.fault.NamingFault.{NamingFault}
use Rattle.program_files.proofs.Begun.{on_err}
use Rattle.view_commands.proofs.Drawn.{run_end_too}
use Rattle.view_commands.specs.Views.{IsNamed}
use Rattle.view_commands.proofs.guests.draw_guest.Goals as goal

pub returns-in_err-draw_ranges-in-None-clause-begun : goal.returns-in_err-draw_ranges-in-None-clause-begun
returns-in_err-draw_ranges-in-None-clause-begun g c =
    let asked = c.args.asked.now in
    let is : c.in_ok-bytes.field-0.fault ≡ None = cc in
    let named = rw (c.deref.ensures.value, c.deref-2.ensures.value, c.deref-3.ensures.value) at c.in_ok-bytes.ensures.fault in
    let sound = subst (λ (f : Option NamingFault). IsNamed asked c.args.given.now.program.image.items asked.run.program.pages f) is named in
    on_err c.from_residual-in_err-draw_ranges-in-None.result _ (⊎_elim (λ same. inl same) (λ b. inr (record { drawn = b.0; sound = sound; began = b.1 }))
    c.in_err-draw_ranges-in-None.ensures.begun)

pub returns-clause-draws : goal.returns-clause-draws
returns-clause-draws g c =
    let asked = c.args.asked.now in
    let is : c.in_ok-bytes.field-0.fault ≡ None = cc in
    let named = rw (c.deref.ensures.value, c.deref-2.ensures.value, c.deref-3.ensures.value) at c.in_ok-bytes.ensures.fault in
    let sound = subst (λ (f : Option NamingFault). IsNamed asked c.args.given.now.program.image.items asked.run.program.pages f) is named in
    let d = c.in_ok-draw_ranges-in-None.ensures.draws in
    record { drawn = d.0; sound = sound; prints = d.1; is_status = refl }

pub returns-in-Some-clause-errors : goal.returns-in-Some-clause-errors
returns-in-Some-clause-errors g c = run_end_too c.args.asked.now _ _ _ _ c.refused_for.result c.refused_for.ensures
