-- The file of an execution that the checker allows.
use Rattle.std.proofs.Common.{◌≡◌, Bool, None, false, subst, true}
use Rattle.std.specs.Bool.{OnTrue}
use Rattle.execution_checker.specs.declared.verdict.Verdict.TheVariants.{Allowed}
use Rattle.execution_file.specs.Recorded.{Recorded}
use Rattle.execution_scripts.specs.Findings.{IsAllowedFile, IsFound, guest_in}
use Rattle.execution_scripts.specs.declared.checking.Checked.{Checked}
use Rattle.execution_scripts.specs.declared.checking.Finding.{Finding}
use Rattle.execution_scripts.specs.declared.checking.Finding.TheVariants.{Judged}

pub allowed_so : (r : Recorded) (f : Finding) (c : Checked) (yes : Bool) → OnTrue yes (f ≡ Judged Allowed) → IsFound (guest_in r) r None f c → OnTrue yes (IsAllowedFile r)
allowed_so r f c true is found =
    let j = subst (λ (x : Finding). IsFound (guest_in r) r None x c) is found in
    record { script = c.script.items; order = c.order.0.items; end = c.execution.standing; follows = j.verdict.0; allows = j.verdict.1; as_said = j.as_said }
allowed_so r f c false is found = tt
