use Rattle.std.proofs.Common.{◌≡◌, ℕ, subst, slice_index}
use Rattle.std.proofs.lemmas.Result.{IfOk-weaker}
use Rattle.elf_loader.specs.Image.{Loaded}
use Rattle.trace.specs.Traced.{opening_at}
use Rattle.weak_executions.proofs.Judged.{allowed_end}
use Rattle.weak_executions.proofs.checking.check_by.Goals as goal

pub returns : goal.returns
returns c =
    let o = c.args.opening.now in
    let begun = c.in_ok-execution.execution in
    let bytes = c.in_ok-trace.trace.opening in
    let opens = subst (λ (i : Loaded). (x : ℕ) → opening_at bytes x ≡ slice_index i.bytes x) c.image.ensures c.in_ok-trace.ensures in
    IfOk-weaker c.find-finding.result _ _
    (λ f h. allowed_end o.image.now o.input.now o.harts.now bytes begun.memory c.script.result.now c.in_ok-order.order.0.items begun.standing
    c.find-finding.new.execution.standing f.verdict f.harts.items f.output.items opens c.in_ok-execution.ensures.memory c.in_ok-execution.ensures.standing h.0 h.1 h.2)
    c.find-finding.ensures
