use Rattle.std.proofs.Common.{List, ap, ◌∙◌}
use Rattle.trace.specs.Traced.{Laid, opening_at}
use Rattle.weak_executions.proofs.Judged.{opened_at}
use Rattle.weak_executions.proofs.checking.opening_trace.Goals as goal

pub returns : goal.returns
returns c = λ x.
    ap (λ (ls : List Laid). opening_at ls x) (c.new-trace.ensures.opening ∙ c.in_ok-pieces.ensures)
    ∙ opened_at c.args.image.now c.pieces.result.now c.pieces.ensures.bytes c.pieces.ensures.within x
