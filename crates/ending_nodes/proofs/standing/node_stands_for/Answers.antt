use Rattle.std.proofs.Common.{◌∙◌, List, Contains, sym, subst}
use Rattle.std.specs.Global.{Vec}
use Rattle.list_suffixes.specs.SettledWalks.{AreAhead}
use Rattle.run_places.specs.declared.place.Place.{Place}
use Rattle.ending_nodes.specs.KeptNodes.{spots_at}
use Rattle.ending_nodes.proofs.KeptNodes.{nodes_stand}
use Rattle.ending_nodes.proofs.standing.node_stands_for.Goals as goal

pub returns : goal.returns
returns c = λ yes image harts.
    nodes_stand image harts c.args.node.now c.args.other.now (sym c.deref.ensures.value ∙ (c.are_same.ensures c.if-not-are_same.false ∙ c.deref-2.ensures.value))
    (sym c.deref-3.ensures.value ∙ (c.are_same-2.ensures c.if-not-are_same-2.false ∙ c.deref-4.ensures.value))
    (λ h p there. subst (λ (ps : List (Vec Place)). AreAhead (spots_at ps h) p) c.deref-5.ensures.value
    (c.each_stand_for.ensures yes h p (subst (λ (ps : List (Vec Place)). Contains (spots_at ps h) p) (sym c.deref-6.ensures.value) there)))
