use Rattle.std.proofs.Common.{◌≡◌, ℕ, Bool, List, [], ◌∷◌, ◌++◌, length, Option, IfSome, sym, ap, ◌∙◌, subst}
use Rattle.all_endings.specs.StoreLists.{Stored}
use Rattle.hart_states.specs.States.{listed, stored_of}
use Rattle.own_moves.specs.Owned.{owns_of}
use Rattle.list_suffixes.specs.Serving.{IsRaised, IsServed, Node}
use Rattle.ending_nodes.specs.declared.node.Node.{Node as KeptNode}
use Rattle.ending_nodes.specs.KeptNodes.{node_over, node_told}
use Rattle.ending_nodes.proofs.raising.next_node.Goals as goal

pub returns-in-Some : goal.returns-in-Some
returns-in-Some c = λ hs many fresh m served.
    let owns = owns_of c.args.program.now.owned.now in
    let k = c.args.program.now.steps in
    let image = c.args.program.now.pages.now.memory in
    let harts = length c.args.program.now.maps.now in
    let s = stored_of c.args.store in
    let kept = c.args.node.now in
    let t = node_told image c.in-Some.raised in
    let list = listed c.deref.result.now in
    let longer : list ≡ listed kept.list.items ++ s ∷ [] = ap listed c.deref.ensures.value ∙ c.in_ok-list.ensures in
    let is : (stays : List Bool) × IsRaised owns k image harts stays (node_over image kept list) t =
    subst (λ (r : Option KeptNode). IfSome r (λ (u : KeptNode). (stays : List Bool) × IsRaised owns k image harts stays (node_over image kept list) (node_told image u))) c.in-Some.is
    c.in_ok-higher.ensures in
    c.raised_nodes_serve.ensures owns k image hs is.0 (node_over image kept list) t (m ++ s ∷ []) fresh
    (subst (λ (j : ℕ). IsRaised owns k image j is.0 (node_over image kept list) t) (sym many) is.1)
    (subst (λ (l : List Stored). IsServed owns k image hs (node_over image kept l) (m ++ s ∷ [])) (sym longer) (c.longer_lists_are_served.ensures owns k image hs (node_told image kept) m s served))

pub returns-in_ok-longer-in-None : goal.returns-in_ok-longer-in-None
returns-in_ok-longer-in-None c = λ hs many fresh m served.
    let owns = owns_of c.args.program.now.owned.now in
    let k = c.args.program.now.steps in
    let image = c.args.program.now.pages.now.memory in
    let s = stored_of c.args.store in
    let kept = c.args.node.now in
    subst (λ (t : Node). IsServed owns k image hs t (m ++ s ∷ [])) (sym (c.in_ok-longer-in-None.ensures image))
    (subst (λ (l : List Stored). IsServed owns k image hs (node_over image kept l) (m ++ s ∷ [])) (sym c.in_ok-list.ensures)
    (c.longer_lists_are_served.ensures owns k image hs (node_told image kept) m s served))
