use Rattle.std.proofs.Common.{Some, sym, ap, ◌∙◌}
use Rattle.early_reads.specs.declared.early_point.EarlyPoint.{EarlyPoint}
use Rattle.early_reads.proofs.LeftOut.{leaves_there}
use Rattle.early_reads.proofs.early_bytes.leaves_out.Goals as goal

pub returns-in-Some : goal.returns-in-Some
returns-in-Some c = λ held.
    let p = c.index-points-index.result in
    leaves_there c.args.points.now c.args.pc p (c.in-Some.ensures.1 p ∙ ap (λ (q : EarlyPoint). Some q) (sym c.index-points-index.is)) (c.is_open.ensures held)
