use Rattle.std.proofs.Common.{◌≡◌, List, length, take, Contains, refl, sym, subst}
use Rattle.std.proofs.lemmas.List.{take_all}
use Rattle.all_endings.specs.StoreLists.{Stored}
use Rattle.hart_states.specs.declared.listed_store.ListedStore.{ListedStore}
use Rattle.hart_states.specs.States.{listed, stored_of}
use Rattle.own_moves.specs.Owned.{owns_of}
use Rattle.ending_nodes.proofs.KeptNodes.{nodes_on}
use Rattle.ending_nodes.proofs.Told.{each_more}
use Rattle.all_checker.specs.Nodes.{HaveNext}
use Rattle.all_checker.proofs.Looked.{have_stays}
use Rattle.all_checker.proofs.looking.add_next.Goals as goal

pub loop-store-preserved : goal.loop-store-preserved
loop-store-preserved c =
    let i = c.loop-store.invariant in
    let old = c.loop-store.next.items in
    let more = c.add_one.new.next.items in
    let added = c.in_ok-add_one.ensures in
    let owns = owns_of c.args.program.now.owned.now in
    let k = c.args.program.now.steps in
    let image = c.args.program.now.pages.now.memory in
    let harts = length c.args.program.now.maps.now in
    record {
      grow = nodes_on _ old more i.grow added.grow;
      added = each_more stored_of (λ (s : Stored). HaveNext owns k image harts more c.args.node.now s) c.args.stores.now c.loop-store.store-index _ _ c.loop-store-test.true refl added.added
          (λ s there. have_stays owns k image harts old more c.args.node.now s added.grow (i.added s there));
    }

pub returns-clause-added : goal.returns-clause-added
returns-clause-added c = λ s there.
    let all : take c.loop-store.store-index c.args.stores.now ≡ c.args.stores.now = take_all c.loop-store.store-index c.args.stores.now c.loop-store-test.false in
    c.loop-store.invariant.added s (subst (λ (ss : List ListedStore). Contains (listed ss) s) (sym all) there)
