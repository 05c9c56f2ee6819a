use Rattle.std.proofs.Common.{All}
use Rattle.own_moves.specs.declared.owned.OwnDoubleword.{OwnDoubleword}
use Rattle.all_checker.specs.Owning.{IsUnseen}
use Rattle.all_checker.proofs.owning.unseen.Given as goal

abbrev pub invariant-loop-own : goal.invariant-loop-own
invariant-loop-own l = All (λ (o : OwnDoubleword). IsUnseen o.number l.see) l.owned.items
