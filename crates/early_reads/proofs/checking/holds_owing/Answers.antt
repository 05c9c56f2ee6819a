use Rattle.std.proofs.Common.{inl}
use Rattle.own_moves.specs.Owned.{owns_of}
use Rattle.early_reads.specs.declared.early_point.LateKinds.{LateKinds}
use Rattle.early_reads.specs.Checking.{IsRightAt}
use Rattle.early_reads.proofs.Points.{by_kinds, none_late}
use Rattle.early_reads.proofs.checking.holds_owing.Goals as goal

pub returns : goal.returns
returns c = λ held.
    by_kinds (λ (l : LateKinds). IsRightAt c.args.points.now (owns_of c.args.owned.now) c.args.pages.now.memory c.args.hart c.args.point.now l) c.args.owes
    (c.holds_from-3.ensures held) (c.holds_from.ensures c.if-not-holds_from.false) (c.holds_from-2.ensures c.if-not-holds_from-2.false)
    (λ m opening a v at dec acting agrees. inl (λ x. none_late c.args.owes c.args.point.now x))
