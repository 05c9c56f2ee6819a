use Rattle.std.proofs.Common.{◌≡◌, ◌∙◌, None, Option, Some, ap, inl, inr, refl, subst, true, ⊎_elim}
use Rattle.std.proofs.lemmas.Result.{err_from_is_err_and}
use Rattle.weak_commands.proofs.Ended.{refusal_so}
use Rattle.hunt_commands.specs.Settings.{IsNamed}
use Rattle.hunt_commands.proofs.Ranges.{none_bad, ranges_so}
use Rattle.hunt_commands.proofs.Refused.{fault_so, told_so}
use Rattle.hunter.specs.Hunts.{hunt_fault}
use Rattle.program_files.specs.declared.fault.NamingFault.{NamingFault}
use Rattle.program_files.proofs.Begun.{on_err}
use Rattle.weak_commands.proofs.fences.search_given.Goals as goal

pub returns-in_err-assumed-clause-errors : goal.returns-in_err-assumed-clause-errors
returns-in_err-assumed-clause-errors g c =
    let p = err_from_is_err_and c.from_residual-in_err-assumed.result c.from_residual-in_err-assumed.ensures.1 in
    rw (p.1, p.2) (inr (inr (inr (record {
      settings = c.with_end-hunt.result;
      numbers = c.with_end-hunt.ensures.numbers c.in_ok-hunt.ensures.numbers;
      unplaced = rw (c.deref-2.ensures.value, c.deref-3.ensures.value) at c.in_err-assumed.ensures.errors;
    }))))

pub returns-in-Some-clause-errors : goal.returns-in-Some-clause-errors
returns-in-Some-clause-errors g c =
    let asked = c.args.asked.now in
    let image = c.args.files.now.image.items in
    let s = c.with_end-hunt.result in
    let is : c.in_ok-bytes.field-0.fault ≡ Some c.in-Some.fault = cc in
    let named = subst (λ (f : Option NamingFault). IsNamed asked.search image f) is c.in_ok-bytes.ensures.fault in
    inr (inl (record {
      settings = s;
      numbers = c.with_end-hunt.ensures.numbers c.in_ok-hunt.ensures.numbers;
      refused = fault_so asked.search true (hunt_fault s) s image _ c.in-Some.fault c.refused_for.result named c.refused_for.ensures.settings
          (rw c.deref-in-Some.ensures.value at c.refused_for.ensures.image) (rw c.deref-in-Some.ensures.value at c.refused_for.ensures.reason);
    }))

pub returns-in_err-answer-in-None-clause-begun : goal.returns-in_err-answer-in-None-clause-begun
returns-in_err-answer-in-None-clause-begun g c =
    let asked = c.args.asked.now in
    let image = c.args.files.now.image.items in
    let s = c.with_end-hunt.result in
    let numbers = c.with_end-hunt.ensures.numbers c.in_ok-hunt.ensures.numbers in
    let bytes = c.in_ok-bytes.field-0.bytes.items in
    let is : c.in_ok-bytes.field-0.fault ≡ None = cc in
    let there = c.in_ok-bytes.ensures.bytes in
    let named = subst (λ (f : Option NamingFault). IsNamed asked.search image f) is c.in_ok-bytes.ensures.fault in
    let ranges = ap (λ v. v.items) c.with_end-hunt.ensures.ranges ∙ rw c.deref.ensures.value at c.in_ok-hunt.ensures.ranges in
    on_err c.from_residual-in_err-answer-in-None.result _ (⊎_elim (λ same. inl same) (λ t. inr (
      record {
        settings = record { hunt = s; steps = asked.steps; assumed = c.in_ok-assumed.assumed; accepted = c.in_ok-accepted.accepted; keeps = c.is_some.result };
        table = t.0;
        executions = t.1;
        set = record {
          numbers = numbers;
          ranges = ranges_so asked.search image bytes s there named ranges;
          ends = c.with_end-hunt.ensures.end;
          steps = refl;
          assumed = rw (c.deref-2.ensures.value, c.deref-3.ensures.value) at c.in_ok-assumed.ensures.assumed;
          is_accepted = c.in_ok-accepted.ensures.found;
          keeps = c.is_some.ensures;
        };
        searched = t.2;
        told = t.3;
        found = t.4;
      },
      t.5,
    )) c.in_err-answer-in-None.ensures.begun)

pub returns-in_err-answer-in-None-clause-errors : goal.returns-in_err-answer-in-None-clause-errors
returns-in_err-answer-in-None-clause-errors g c =
    let asked = c.args.asked.now in
    let image = c.args.files.now.image.items in
    let s = c.with_end-hunt.result in
    let numbers = c.with_end-hunt.ensures.numbers c.in_ok-hunt.ensures.numbers in
    let bytes = c.in_ok-bytes.field-0.bytes.items in
    let is : c.in_ok-bytes.field-0.fault ≡ None = cc in
    let there = c.in_ok-bytes.ensures.bytes in
    let named = subst (λ (f : Option NamingFault). IsNamed asked.search image f) is c.in_ok-bytes.ensures.fault in
    let ranges = ap (λ v. v.items) c.with_end-hunt.ensures.ranges ∙ rw c.deref.ensures.value at c.in_ok-hunt.ensures.ranges in
    let e = c.in_err-answer-in-None.field-0.0 in
    let good = none_bad asked.search image bytes s numbers.program.pages there named ranges in
    let p = err_from_is_err_and c.from_residual-in_err-answer-in-None.result c.from_residual-in_err-answer-in-None.ensures.1 in
    rw (p.1, p.2) (inr (inl (record {
      settings = s;
      numbers = numbers;
      refused = told_so asked.search true (hunt_fault s) s image _ e good c.in_err-answer-in-None.ensures.settings
          (λ none. refusal_so s image _ _ e (λ more. inl more) (c.in_err-answer-in-None.ensures.errors none))
          c.in_err-answer-in-None.ensures.image;
    })))

pub returns-clause-searches : goal.returns-clause-searches
returns-clause-searches g c =
    let asked = c.args.asked.now in
    let image = c.args.files.now.image.items in
    let s = c.with_end-hunt.result in
    let numbers = c.with_end-hunt.ensures.numbers c.in_ok-hunt.ensures.numbers in
    let bytes = c.in_ok-bytes.field-0.bytes.items in
    let is : c.in_ok-bytes.field-0.fault ≡ None = cc in
    let there = c.in_ok-bytes.ensures.bytes in
    let named = subst (λ (f : Option NamingFault). IsNamed asked.search image f) is c.in_ok-bytes.ensures.fault in
    let ranges = ap (λ v. v.items) c.with_end-hunt.ensures.ranges ∙ rw c.deref.ensures.value at c.in_ok-hunt.ensures.ranges in
    let h = c.in_ok-answer-in-None.ensures.finds in
    let f = c.in_ok-answer-in-None.field-0 in (
      record {
        settings = record { hunt = s; steps = asked.steps; assumed = c.in_ok-assumed.assumed; accepted = c.in_ok-accepted.accepted; keeps = c.is_some.result };
        table = f.table;
        executions = f.executions.items;
        set = record {
          numbers = numbers;
          ranges = ranges_so asked.search image bytes s there named ranges;
          ends = c.with_end-hunt.ensures.end;
          steps = refl;
          assumed = rw (c.deref-2.ensures.value, c.deref-3.ensures.value) at c.in_ok-assumed.ensures.assumed;
          is_accepted = c.in_ok-accepted.ensures.found;
          keeps = c.is_some.ensures;
        };
        searched = h.0;
        told = h.1;
        found = h.2;
      },
      h.3,
      refl,
      refl,
    )
