use Rattle.std.proofs.Common.{◌≡◌, IfOk, arith, refl, subst}
use Rattle.std.specs.List.{range_with_len}
use Rattle.std.proofs.lemmas.Iterator.{YieldsList-from_range, items_from_collect}
use Rattle.execution_moments.proofs.sequence.numbers_below.Goals as goal

pub returns : goal.returns
returns c =
    subst (λ r. IfOk r (λ v. v.items ≡ range_with_len 0 c.args.count)) c.in_ok-numbers.was
    (items_from_collect _ c.collect.ensures.ran (YieldsList-from_range 0 c.args.count c.args.count refl (omega arith)))
