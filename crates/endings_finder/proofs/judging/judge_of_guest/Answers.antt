use Rattle.std.proofs.Common.{◌∙◌, IfOk, IfSome, ap, subst, sym}
use Rattle.pages.specs.Memory.{Memory}
use Rattle.execution.specs.Executions.{Standing}
use Rattle.execution_scripts.specs.Findings.{start_of}
use Rattle.all_endings.specs.Endings.{opening_bytes}
use Rattle.ending_judge.specs.JudgedEndings.{IsAllowedFrom, ending_in, ranges_of}
use Rattle.endings_finder.specs.AllEndings.{guest_from}
use Rattle.endings_finder.proofs.judging.judge_of_guest.Goals as goal

pub judge_ending-found-requires-clause-opens : goal.judge_ending-found-requires-clause-opens
judge_ending-found-requires-clause-opens c = λ x. c.opening-opening.ensures x ∙ ap (λ (m : Memory). opening_bytes m x) (sym c.in_ok-execution.ensures.memory)

pub returns : goal.returns
returns c =
    let guest = c.args.guest.now in
    let ranges = ranges_of guest.ranges.now in
    let e = c.in_ok-execution.execution in
    let start = start_of (guest_from guest.program.now guest.scripted) in
    subst (λ (m : Memory). IfOk c.judge_ending-found.result (λ found. IfSome found (λ x. IsAllowedFrom m start ranges (ending_in x)))) c.in_ok-execution.ensures.memory
    (subst (λ (p : Standing). IfOk c.judge_ending-found.result (λ found. IfSome found (λ x. IsAllowedFrom e.memory p ranges (ending_in x)))) c.in_ok-execution.ensures.standing c.judge_ending-found.ensures)
