use Rattle.std.proofs.Common.{List, All, subst}
use Rattle.std.proofs.lemmas.List.{take_all}
use Rattle.std.proofs.lemmas.List.Elements.{All-more}
use Rattle.pages.specs.declared.access.Range.{Range}
use Rattle.all_checker.specs.Owning.{Misses}
use Rattle.all_checker.proofs.owning.is_unseen.Goals as goal

pub loop-range-preserved : goal.loop-range-preserved
loop-range-preserved c =
    All-more (Misses c.args.own.now.number) c.args.see.now c.loop-range.range-index _ c.loop-range-test.true c.loop-range.invariant (c.shows.ensures c.if-shows.false)

pub returns : goal.returns
returns c = λ is.
    let over = c.loop-range-test.false in
    subst (λ (rs : List Range). All (Misses c.args.own.now.number) rs) (take_all c.loop-range.range-index c.args.see.now over) c.loop-range.invariant
