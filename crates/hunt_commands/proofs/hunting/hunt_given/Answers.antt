use Rattle.std.proofs.Common.{◌≡◌, None, Option, Some, inl, inr, refl, subst, ⊎_elim}
use Rattle.std.proofs.lemmas.Result.{err_from_is_err_and}
use Rattle.hunt_commands.specs.Settings.{IsNamed}
use Rattle.program_files.proofs.Begun.{on_err}
use Rattle.hunt_commands.proofs.Ranges.{none_bad, ranges_so}
use Rattle.hunt_commands.proofs.Refused.{fault_so, refusal_too, told_so}
use Rattle.hunt_commands.proofs.Tables.{table_so}
use Rattle.hunter.specs.Hunts.{hunt_fault}
use Rattle.program_files.specs.declared.fault.NamingFault.{NamingFault}
use Rattle.hunt_commands.proofs.hunting.hunt_given.Goals as goal

pub returns-in-Some-clause-errors : goal.returns-in-Some-clause-errors
returns-in-Some-clause-errors g c =
    let asked = c.args.asked.now in
    let image = c.args.files.now.image.items in
    let s = c.in_ok-settings.settings in
    let is : c.in_ok-bytes.field-0.fault ≡ Some c.in-Some.fault = cc in
    let named = subst (λ (f : Option NamingFault). IsNamed asked.search image f) is c.in_ok-bytes.ensures.fault in
    inr (record {
      settings = s;
      numbers = c.in_ok-settings.ensures.numbers;
      refused = fault_so asked.search asked.weak (hunt_fault s) s image _ c.in-Some.fault c.refused_for.result named c.refused_for.ensures.settings
          (rw c.deref-in-Some.ensures.value at c.refused_for.ensures.image) (rw c.deref-in-Some.ensures.value at c.refused_for.ensures.reason);
    })

pub returns-in_err-answer-in-None-clause-begun : goal.returns-in_err-answer-in-None-clause-begun
returns-in_err-answer-in-None-clause-begun g c =
    let asked = c.args.asked.now in
    let image = c.args.files.now.image.items in
    let input = c.args.files.now.input.items in
    let s = c.in_ok-settings.settings in
    let numbers = c.in_ok-settings.ensures.numbers in
    let bytes = c.in_ok-bytes.field-0.bytes.items in
    let is : c.in_ok-bytes.field-0.fault ≡ None = cc in
    let there = c.in_ok-bytes.ensures.bytes in
    let named = subst (λ (f : Option NamingFault). IsNamed asked.search image f) is c.in_ok-bytes.ensures.fault in
    let ranges = rw c.deref.ensures.value at c.in_ok-settings.ensures.ranges in
    on_err c.from_residual-in_err-answer-in-None.result _ (⊎_elim (λ same. inl same) (λ b. inr (
      record {
        settings = s;
        done = b.0;
        rows = b.1;
        numbers = numbers;
        ends = c.in_ok-settings.ensures.ends;
        program = rw c.deref-2.ensures.value at c.in_ok-settings.ensures.program;
        ranges = ranges_so asked.search image bytes s there named ranges;
        table = table_so g.W.WeakHunts.hunts asked.steps asked.weak s image input b.0 b.1 numbers.is_weak b.2;
      },
      b.3,
    )) c.in_err-answer-in-None.ensures.begun)

pub returns-in_err-answer-in-None-clause-errors : goal.returns-in_err-answer-in-None-clause-errors
returns-in_err-answer-in-None-clause-errors g c =
    let asked = c.args.asked.now in
    let image = c.args.files.now.image.items in
    let input = c.args.files.now.input.items in
    let s = c.in_ok-settings.settings in
    let numbers = c.in_ok-settings.ensures.numbers in
    let bytes = c.in_ok-bytes.field-0.bytes.items in
    let is : c.in_ok-bytes.field-0.fault ≡ None = cc in
    let there = c.in_ok-bytes.ensures.bytes in
    let named = subst (λ (f : Option NamingFault). IsNamed asked.search image f) is c.in_ok-bytes.ensures.fault in
    let ranges = rw c.deref.ensures.value at c.in_ok-settings.ensures.ranges in
    let e = c.in_err-answer-in-None.field-0.0 in
    let good = none_bad asked.search image bytes s numbers.program.pages there named ranges in
    let p = err_from_is_err_and c.from_residual-in_err-answer-in-None.result c.from_residual-in_err-answer-in-None.ensures.1 in
    rw (p.1, p.2) (inr (record {
      settings = s;
      numbers = numbers;
      refused = told_so asked.search asked.weak (hunt_fault s) s image _ e good c.in_err-answer-in-None.ensures.settings
          (λ none. refusal_too _ asked.weak s image _ _ e numbers.is_weak (λ more. inl more) (c.in_err-answer-in-None.ensures.errors none)) c.in_err-answer-in-None.ensures.image;
    }))

pub returns-clause-hunts : goal.returns-clause-hunts
returns-clause-hunts g c =
    let asked = c.args.asked.now in
    let image = c.args.files.now.image.items in
    let input = c.args.files.now.input.items in
    let s = c.in_ok-settings.settings in
    let numbers = c.in_ok-settings.ensures.numbers in
    let bytes = c.in_ok-bytes.field-0.bytes.items in
    let is : c.in_ok-bytes.field-0.fault ≡ None = cc in
    let there = c.in_ok-bytes.ensures.bytes in
    let named = subst (λ (f : Option NamingFault). IsNamed asked.search image f) is c.in_ok-bytes.ensures.fault in
    let ranges = rw c.deref.ensures.value at c.in_ok-settings.ensures.ranges in
    let h = c.in_ok-answer-in-None.ensures.hunts in
    let tally = c.in_ok-answer-in-None.field-0 in (
      record {
        settings = s;
        done = tally.done;
        rows = tally.rows.items;
        numbers = numbers;
        ends = c.in_ok-settings.ensures.ends;
        program = rw c.deref-2.ensures.value at c.in_ok-settings.ensures.program;
        ranges = ranges_so asked.search image bytes s there named ranges;
        table = table_so g.W.WeakHunts.hunts asked.steps asked.weak s image input tally.done tally.rows.items numbers.is_weak h.0;
      },
      h.1,
      refl,
    )
