use Rattle.std.proofs.Common.{◌≡◌, None, Option, Some, false, inl, inr, refl, subst, ⊎_elim}
use Rattle.all_commands.proofs.Ended.{finder_told, refusal_so}
use Rattle.hunt_commands.specs.Settings.{IsNamed}
use Rattle.hunt_commands.proofs.Ranges.{none_bad, ranges_so}
use Rattle.hunt_commands.proofs.Refused.{fault_so}
use Rattle.hunter.specs.Hunts.{hunt_fault}
use Rattle.program_files.specs.declared.fault.NamingFault.{NamingFault}
use Rattle.all_commands.proofs.endings.search_given.Goals as goal

pub returns-in-Some-clause-errors : goal.returns-in-Some-clause-errors
returns-in-Some-clause-errors g c =
    let asked = c.args.asked.now in
    let image = c.args.files.now.image.items in
    let s = c.in_ok-hunt.hunt in
    let is : c.in_ok-bytes.field-0.fault ≡ Some c.in-Some.fault = cc in
    let named = subst (λ (f : Option NamingFault). IsNamed asked.search image f) is c.in_ok-bytes.ensures.fault in
    inr (record {
      settings = s;
      numbers = c.in_ok-hunt.ensures.numbers;
      refused = fault_so asked.search false (hunt_fault s) s image _ c.in-Some.fault c.refused_for.result named c.refused_for.ensures.settings
          (rw c.deref-in-Some.ensures.value at c.refused_for.ensures.image) (rw c.deref-in-Some.ensures.value at c.refused_for.ensures.reason);
    })

pub returns-clause-begun : goal.returns-clause-begun
returns-clause-begun g c =
    let asked = c.args.asked.now in
    let image = c.args.files.now.image.items in
    let s = c.in_ok-hunt.hunt in
    let numbers = c.in_ok-hunt.ensures.numbers in
    let bytes = c.in_ok-bytes.field-0.bytes.items in
    let is : c.in_ok-bytes.field-0.fault ≡ None = cc in
    let there = c.in_ok-bytes.ensures.bytes in
    let named = subst (λ (f : Option NamingFault). IsNamed asked.search image f) is c.in_ok-bytes.ensures.fault in
    let ranges = rw c.deref.ensures.value at c.in_ok-hunt.ensures.ranges in
    ⊎_elim (λ same. inl same) (λ t. inr (
      record {
        settings = record { hunt = s; steps = asked.steps; nodes = asked.nodes; keeps = c.is_some.result; fences = asked.fences };
        table = t.0;
        executions = t.1;
        set = record {
          numbers = numbers;
          ranges = ranges_so asked.search image bytes s there named ranges;
          steps = refl;
          nodes = refl;
          keeps = c.is_some.ensures;
          fences = refl;
        };
        searched = t.2;
        kept = t.3;
        found = t.4;
      },
      t.5,
    )) c.in-Err.ensures.begun

pub returns-clause-errors : goal.returns-clause-errors
returns-clause-errors g c =
    let asked = c.args.asked.now in
    let image = c.args.files.now.image.items in
    let s = c.in_ok-hunt.hunt in
    let numbers = c.in_ok-hunt.ensures.numbers in
    let bytes = c.in_ok-bytes.field-0.bytes.items in
    let is : c.in_ok-bytes.field-0.fault ≡ None = cc in
    let there = c.in_ok-bytes.ensures.bytes in
    let named = subst (λ (f : Option NamingFault). IsNamed asked.search image f) is c.in_ok-bytes.ensures.fault in
    let ranges = rw c.deref.ensures.value at c.in_ok-hunt.ensures.ranges in
    let e = c.in-Err.error in
    let good = none_bad asked.search image bytes s numbers.program.pages there named ranges in
    rw c.from.ensures (inr (record {
      settings = s;
      numbers = numbers;
      refused = finder_told asked.search (hunt_fault s) s image _ e good c.in-Err.ensures.settings
          (λ none. refusal_so false s image _ _ e (λ more. inl more) (c.in-Err.ensures.errors none))
          c.in-Err.ensures.image;
    }))

pub returns-in-Ok-clause-searches : goal.returns-in-Ok-clause-searches
returns-in-Ok-clause-searches g c =
    let asked = c.args.asked.now in
    let image = c.args.files.now.image.items in
    let s = c.in_ok-hunt.hunt in
    let numbers = c.in_ok-hunt.ensures.numbers in
    let bytes = c.in_ok-bytes.field-0.bytes.items in
    let is : c.in_ok-bytes.field-0.fault ≡ None = cc in
    let there = c.in_ok-bytes.ensures.bytes in
    let named = subst (λ (f : Option NamingFault). IsNamed asked.search image f) is c.in_ok-bytes.ensures.fault in
    let ranges = rw c.deref.ensures.value at c.in_ok-hunt.ensures.ranges in
    let h = c.in-Ok.ensures.finds in
    let f = c.in-Ok.found in (
      record {
        settings = record { hunt = s; steps = asked.steps; nodes = asked.nodes; keeps = c.is_some.result; fences = asked.fences };
        table = f.table;
        executions = f.executions.items;
        set = record {
          numbers = numbers;
          ranges = ranges_so asked.search image bytes s there named ranges;
          steps = refl;
          nodes = refl;
          keeps = c.is_some.ensures;
          fences = refl;
        };
        searched = h.0;
        kept = h.1;
        found = h.2;
      },
      h.3,
      refl,
      refl,
    )
