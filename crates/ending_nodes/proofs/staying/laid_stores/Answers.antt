use Rattle.std.proofs.Common.{not, List, refl, ap, ◌∙◌}
use Rattle.std.proofs.lemmas.List.{take_all}
use Rattle.hart_states.specs.declared.listed_store.ListedStore.{ListedStore}
use Rattle.hart_states.specs.States.{listed}
use Rattle.list_suffixes.specs.Staying.{laid}
use Rattle.ending_nodes.proofs.Laid.{laid_empty, laid_more}
use Rattle.ending_nodes.proofs.staying.laid_stores.Goals as goal

pub loop-index-init : goal.loop-index-init
loop-index-init c = laid_empty c.args.stays.now c.new-laid.result.items c.new-laid.ensures.items

pub loop-index-preserved : goal.loop-index-preserved
loop-index-preserved c =
    let e = c.stays_at.ensures in
    laid_more c.args.stays.now c.args.list.now c.loop-index.index _ _ c.loop-index.laid.items c.push_if.new.stores.items c.loop-index-test.true refl
    (λ no. c.in_ok-push_if.ensures.yes (ap not (e ∙ no))) (λ yes. c.in_ok-push_if.ensures.no (ap not (e ∙ yes))) c.loop-index.invariant

pub returns : goal.returns
returns c =
    c.loop-index.invariant ∙ ap (λ (l : List ListedStore). laid c.args.stays.now (listed l)) (take_all c.loop-index.index c.args.list.now c.loop-index-test.false)
