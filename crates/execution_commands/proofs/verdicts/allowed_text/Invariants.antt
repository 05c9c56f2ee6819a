use Rattle.std.proofs.Common.{◌≡◌, ◌++◌, codes, drop}
use Rattle.report.specs.Report.{harts_text}
use Rattle.execution_commands.proofs.verdicts.allowed_text.Given as goal

-- with the lines of the harts that are left
abbrev pub invariant-loop-number : goal.invariant-loop-number
invariant-loop-number l = l.text ++ harts_text l.number (drop l.number l.harts) ≡ codes "allowed\n" ++ harts_text 0 l.harts
