use Rattle.std.proofs.Common.{List, length, subst}
use Rattle.std.specs.Global.{Vec}
use Rattle.hart_states.specs.declared.listed_store.ListedStore.{ListedStore}
use Rattle.own_moves.specs.Owned.{owns_of}
use Rattle.all_checker.specs.declared.looking.Look.{Look}
use Rattle.all_checker.specs.Nodes.{IsLookOf, LeadOn}
use Rattle.ending_nodes.specs.KeptNodes.{node_told}
use Rattle.all_checker.proofs.sighting.sight_of.Goals as goal

pub returns-in_ok-next-in-Whole : goal.returns-in_ok-next-in-Whole
returns-in_ok-next-in-Whole c =
    let owns = owns_of c.args.program.now.owned.now in
    let k = c.args.program.now.steps in
    let image = c.args.program.now.pages.now.memory in
    let harts = length c.args.program.now.maps.now in
    let node = c.args.node.now in
    record {
      walked = subst (λ (o : Look). IsLookOf owns k image harts (node_told image node) o) c.in-Whole.is c.in_ok-why.ensures;
      seen = c.in_ok-seen-in-Whole.ensures;
      next = subst (λ (ls : List (Vec ListedStore)). LeadOn owns k image harts c.in_ok-next-in-Whole.next.items node ls) c.deref.ensures.value c.in_ok-next-in-Whole.ensures;
    }
