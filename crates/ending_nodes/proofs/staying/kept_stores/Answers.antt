use Rattle.std.proofs.Common.{List, refl, ap, ◌∙◌}
use Rattle.std.proofs.lemmas.List.{take_all}
use Rattle.hart_states.specs.declared.listed_store.ListedStore.{ListedStore}
use Rattle.hart_states.specs.States.{listed}
use Rattle.list_suffixes.specs.Staying.{kept}
use Rattle.ending_nodes.proofs.Laid.{kept_empty, kept_more}
use Rattle.ending_nodes.proofs.staying.kept_stores.Goals as goal

pub loop-index-init : goal.loop-index-init
loop-index-init c = kept_empty c.args.stays.now c.new-kept.result.items c.new-kept.ensures.items

pub loop-index-preserved : goal.loop-index-preserved
loop-index-preserved c =
    let e = c.stays_at.ensures in
    kept_more c.args.stays.now c.args.list.now c.loop-index.index _ _ c.loop-index.kept.items c.push_if.new.stores.items c.loop-index-test.true refl
    (λ yes. c.in_ok-push_if.ensures.yes (e ∙ yes)) (λ no. c.in_ok-push_if.ensures.no (e ∙ no)) c.loop-index.invariant

pub returns : goal.returns
returns c =
    c.loop-index.invariant ∙ ap (λ (l : List ListedStore). kept c.args.stays.now (listed l)) (take_all c.loop-index.index c.args.list.now c.loop-index-test.false)
