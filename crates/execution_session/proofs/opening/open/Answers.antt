use Rattle.std.proofs.Common.{◌≡◌, None, rules, subst}
use Rattle.execution_checker.specs.declared.verdict.Verdict.TheVariants.{Allowed}
use Rattle.execution_file.specs.Views.{as_recorded}
use Rattle.execution_scripts.specs.Findings.{IsFound, guest_in}
use Rattle.execution_scripts.specs.declared.checking.Finding.{Finding}
use Rattle.execution_scripts.specs.declared.checking.Finding.TheVariants.{Judged}
use Rattle.execution_session.proofs.opening.open.Goals as goal

pub open_allowed-requires : goal.open_allowed-requires
open_allowed-requires c =
    let r = as_recorded c.args.file.now in
    let P : Finding → Type 0 = λ f. IsFound (guest_in r) r None f c.in_ok-checked.checked in
    let is : c.in_ok-checked.checked.finding ≡ Judged Allowed = search rules in
    (subst P is c.in_ok-checked.ensures).opening

pub returns-then-ne : goal.returns-then-ne
returns-then-ne c =
    let r = as_recorded c.args.file.now in
    let P : Finding → Type 0 = λ f. IsFound (guest_in r) r None f c.in_ok-checked.checked in
    record {
      against = search rules;
      verdict = λ v e. (subst P e c.in_ok-checked.ensures).verdict;
    }
