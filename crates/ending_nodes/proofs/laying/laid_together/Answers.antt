use Rattle.std.proofs.Common.{◌≡◌, ◌∙◌, List, take, refl, ap}
use Rattle.std.proofs.lemmas.List.{take_all}
use Rattle.all_endings.specs.Tables.{memory_of}
use Rattle.hart_states.specs.declared.listed_store.ListedStore.{ListedStore}
use Rattle.hart_states.specs.States.{listed}
use Rattle.ending_nodes.proofs.Memories.{laid_more}
use Rattle.ending_nodes.proofs.laying.laid_together.Goals as goal

pub loop-store-init : goal.loop-store-init
loop-store-init c = λ opening x. ap (λ (l : List ListedStore). memory_of (listed l) opening x) c.in_ok-all.ensures.items

pub loop-store-preserved : goal.loop-store-preserved
loop-store-preserved c = λ opening x.
    laid_more c.args.list.now c.loop-store.store-index c.loop-store.all.items c.deref.result.now c.in_ok-more.more.items opening (memory_of (listed c.args.behind.now) opening) x c.nobodys.result _ _
    c.loop-store-test.true refl (c.nobodys.ensures.bytes x) (c.nobodys.ensures.number x) c.deref.ensures.value (c.in_ok-more.ensures opening x) (c.loop-store.invariant opening x)

pub returns : goal.returns
returns c = λ opening x.
    let all : take c.loop-store.store-index c.args.list.now ≡ c.args.list.now = take_all c.loop-store.store-index c.args.list.now c.loop-store-test.false in
    c.loop-store.invariant opening x ∙ ap (λ (l : List ListedStore). memory_of (listed l) (memory_of (listed c.args.behind.now) opening) x) all
