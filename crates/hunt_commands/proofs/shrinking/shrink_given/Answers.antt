use Rattle.std.proofs.Common.{◌≡◌, None, Option, Some, inr, refl, subst}
use Rattle.std.proofs.lemmas.Result.{err_from_is_err_and}
use Rattle.hunt_commands.specs.Settings.{IsNamed}
use Rattle.hunt_commands.proofs.Ranges.{none_bad, ranges_so}
use Rattle.hunt_commands.proofs.Refused.{fault_so, guest_told_so}
use Rattle.hunter.specs.Hunts.{shrink_fault}
use Rattle.program_files.specs.declared.fault.NamingFault.{NamingFault}
use Rattle.std.proofs.Common.{false}
use Rattle.hunt_commands.proofs.shrinking.shrink_given.Goals as goal

pub returns-in-Some-clause-errors : goal.returns-in-Some-clause-errors
returns-in-Some-clause-errors g c =
    let asked = c.args.asked.now in
    let image = c.args.files.now.image.items in
    let s = c.in_ok-settings.settings in
    let is : c.in_ok-bytes.field-0.fault ≡ Some c.in-Some.fault = cc in
    let named = subst (λ (f : Option NamingFault). IsNamed asked.search image f) is c.in_ok-bytes.ensures.fault in
    inr (record {
      settings = s;
      numbers = c.in_ok-settings.ensures.numbers;
      refused = fault_so asked.search false (shrink_fault s) s image ⊥ c.in-Some.fault c.refused_for_guest.result named c.refused_for_guest.ensures.settings
          (rw c.deref-in-Some.ensures.value at c.refused_for_guest.ensures.image) (rw c.deref-in-Some.ensures.value at c.refused_for_guest.ensures.reason);
    })

pub returns-in_err-answer-in-None-clause-errors : goal.returns-in_err-answer-in-None-clause-errors
returns-in_err-answer-in-None-clause-errors g c =
    let asked = c.args.asked.now in
    let image = c.args.files.now.image.items in
    let s = c.in_ok-settings.settings in
    let numbers = c.in_ok-settings.ensures.numbers in
    let bytes = c.in_ok-bytes.field-0.bytes.items in
    let is : c.in_ok-bytes.field-0.fault ≡ None = cc in
    let there = c.in_ok-bytes.ensures.bytes in
    let named = subst (λ (f : Option NamingFault). IsNamed asked.search image f) is c.in_ok-bytes.ensures.fault in
    let ranges = rw c.deref.ensures.value at c.in_ok-settings.ensures.ranges in
    let e = c.in_err-answer-in-None.field-0.0 in
    let good = none_bad asked.search image bytes s numbers.program.pages there named ranges in
    let p = err_from_is_err_and c.from_residual-in_err-answer-in-None.result c.from_residual-in_err-answer-in-None.ensures.1 in
    rw (p.1, p.2) (inr (record {
      settings = s;
      numbers = numbers;
      refused = guest_told_so asked.search (shrink_fault s) s image e good c.in_err-answer-in-None.ensures.settings
          (rw c.as_slice-image.ensures.value at c.in_err-answer-in-None.ensures.errors) (rw c.as_slice-image.ensures.value at c.in_err-answer-in-None.ensures.image);
    }))

pub returns-clause-shrinks : goal.returns-clause-shrinks
returns-clause-shrinks g c =
    let asked = c.args.asked.now in
    let image = c.args.files.now.image.items in
    let s = c.in_ok-settings.settings in
    let numbers = c.in_ok-settings.ensures.numbers in
    let bytes = c.in_ok-bytes.field-0.bytes.items in
    let is : c.in_ok-bytes.field-0.fault ≡ None = cc in
    let there = c.in_ok-bytes.ensures.bytes in
    let named = subst (λ (f : Option NamingFault). IsNamed asked.search image f) is c.in_ok-bytes.ensures.fault in
    let ranges = rw c.deref.ensures.value at c.in_ok-settings.ensures.ranges in (
      record {
        settings = s;
        plan = c.in_ok-answer-in-None.field-0;
        numbers = numbers;
        ranges = ranges_so asked.search image bytes s there named ranges;
        shrunk = rw (c.as_slice-image.ensures.value, c.as_slice-input.ensures.value) at c.in_ok-answer-in-None.ensures.shrunk;
      },
      refl,
    )
