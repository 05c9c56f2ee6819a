use Rattle.std.proofs.Common.{◌≡◌, ℕ, List, [], length, get_or, Contains, sym, ap, ◌∙◌, subst, inl, inr, arith}
use Rattle.std.proofs.lemmas.Bool.{cases_lt}
use Rattle.all_endings.specs.StoreLists.{Stored}
use Rattle.hart_states.specs.declared.listed_store.ListedStore.{ListedStore}
use Rattle.hart_states.specs.States.{listed}
use Rattle.own_moves.specs.Owned.{owns_of}
use Rattle.ending_nodes.proofs.Told.{none_in, told_here, told_past}
use Rattle.all_checker.specs.Nodes.{lists_told}
use Rattle.all_checker.proofs.Looked.{have_stays, list_told}
use Rattle.all_checker.proofs.looking.next_nodes.Goals as goal

pub loop-stores-preserved : goal.loop-stores-preserved
loop-stores-preserved c =
    let old = c.loop-stores.next.items in
    let more = c.add_next.new.next.items in
    let offered = c.args.offered.now in
    let n = c.loop-stores.stores-index in
    let added = c.in_ok-add_next.ensures in
    λ h s l there. elim (cases_lt h n) [
      | inl small ↦
          have_stays (owns_of c.args.program.now.owned.now) c.args.program.now.steps c.args.program.now.pages.now.memory (length c.args.program.now.maps.now) old more c.args.node.now s added.grow
          (c.loop-stores.invariant h s small there)
      | inr large ↦
          let here : n ≡ h = omega (arith, l, large) in
          let told : get_or (lists_told offered) h [] ≡ listed c.stores-item.result.items =
          ap (λ (j : ℕ). get_or (lists_told offered) j []) (sym here)
          ∙ told_here list_told offered n c.stores-item.result c.stores-item.result [] c.loop-stores-test.true c.stores-item.is in
          added.added s (subst (λ (ls : List ListedStore). Contains (listed ls) s) (sym c.deref.ensures.value) (subst (λ (ss : List Stored). Contains ss s) told there))
    ]

pub returns : goal.returns
returns c = λ h s there. elim (cases_lt h c.loop-stores.stores-index) [
  | inl small ↦ c.loop-stores.invariant h s small there
  | inr large ↦
      let over = c.loop-stores-test.false in
      let past : get_or (lists_told c.args.offered.now) h [] ≡ [] = told_past list_told c.args.offered.now h [] (omega (arith, large, over)) in
      absurd (none_in s (subst (λ (ss : List Stored). Contains ss s) past there))
]
