use Rattle.own_moves.specs.Owned.{owns_of}
use Rattle.early_reads.specs.declared.early_point.LateKinds.{LateKinds}
use Rattle.early_reads.specs.Checking.{IsRightAt}
use Rattle.early_reads.proofs.Points.{by_owing}
use Rattle.early_reads.proofs.checking.holds_at.Goals as goal

pub returns : goal.returns
returns c = λ held.
    by_owing (λ (l : LateKinds). IsRightAt c.args.points.now (owns_of c.args.owned.now) c.args.pages.now.memory c.args.hart c.args.point.now l)
    (c.holds_owing.ensures c.if-not-holds_owing.false) (c.holds_owing-2.ensures held)
