-- Nodes that are looked through.
use Rattle.std.proofs.Common.{◌≡◌, ℕ, ◌*◌, ◌<◌, ◌≤◌, Bool, List, [], length, get_or, Contains, ap, ◌∙◌, subst, arith}
use Rattle.std.specs.Global.{Vec}
use Rattle.pages.specs.declared.access.Range.{Range}
use Rattle.pages.specs.Memory.{Memory}
use Rattle.hart_step.specs.declared.hart.Hart.{Hart}
use Rattle.hart_step.specs.Console.{ConsoleState, output_room}
use Rattle.all_endings.specs.Endings.{AllEndingsWithin, Ending}
use Rattle.all_endings.specs.Offering.{AreFresh}
use Rattle.all_endings.specs.StoreLists.{Stored}
use Rattle.all_endings.specs.Walking.{AreEndsOf, HartEnding, ending_with}
use Rattle.hart_ends.proofs.Told.{told_by}
use Rattle.hart_ends.specs.Told.{ways_told}
use Rattle.hart_states.specs.declared.listed_store.ListedStore.{ListedStore}
use Rattle.hart_states.specs.States.{listed}
use Rattle.private_bytes.specs.PrivateWalks.{AreNobodys, Spot}
use Rattle.list_suffixes.specs.NodeWalks.{IsLookedThroughFrom, IsWalkedFrom, NodeTablesAreWhole, seen_from}
use Rattle.list_suffixes.specs.Serving.{IsServed, Node}
use Rattle.ending_nodes.specs.declared.node.Node.{Node as KeptNode}
use Rattle.ending_nodes.specs.KeptNodes.{Grow, node_told, nodes_told}
use Rattle.ending_nodes.specs.Raising.{ServesNext}
use Rattle.ending_nodes.proofs.KeptNodes.{nodes_stay}
use Rattle.all_checker.specs.declared.looking.NodeWalks.{NodeWalks}
use Rattle.all_checker.specs.Nodes.{AreWalked, HaveNext, lists_told}

abbrev pub list_told : Vec ListedStore → List Stored
list_told l = listed l.items

-- where there are more nodes, one of them still serves
pub have_stays : (owns : ℕ → ℕ → Bool) (k : ℕ) (image : Memory) (harts : ℕ) (ns os : List KeptNode) (n : KeptNode) (s : Stored) → Grow ns os → HaveNext owns k image harts ns n s → HaveNext owns k image harts os n s
have_stays owns k image harts ns os n s g have hs many fresh =
    let t = have hs many fresh in
    (t.0, nodes_stay image ns os t.0 g t.1, t.2)

module _ (owns : ℕ → ℕ → Bool) (k : ℕ) (image : Memory) (hs : List Hart) (see : List Range) where
  -- where there are more nodes and more endings, a node is looked through that was
  pub looked_on : (ns os : List Node) (t u : List Ending) (n : Node) → ((m : Node) → Contains ns m → Contains os m) → ((e : Ending) → Contains t e → Contains u e) →
      IsLookedThroughFrom owns k image hs see ns t n → IsLookedThroughFrom owns k image hs see os u n
  looked_on ns os t u n nodes endings l = record {
    offered = l.offered;
    ways = l.ways;
    as_many = l.as_many;
    walks = l.walks;
    grows = λ h s small there. let g = l.grows h s small there in (g.0, nodes g.0 g.1, g.2);
    has = λ es all. endings (ending_with es (seen_from see n)) (l.has es all);
  }

  -- a node is, if its harts are walked, and the nodes to which it leads and its endings are there
  pub looked_by : (harts : ℕ) (ns : List Node) (t : List Ending) (n : Node) (w : NodeWalks) → length hs ≡ harts → AreWalked owns k image harts n w →
      ((h : ℕ) (s : Stored) → Contains (get_or (lists_told w.offered.items) h []) s → (m : Node) × Contains ns m × ServesNext owns k image hs n s m) →
      ((es : List HartEnding) → AreEndsOf (ways_told w.ways.items) es → Contains t (ending_with es (seen_from see n))) → IsLookedThroughFrom owns k image hs see ns t n
  looked_by harts ns t n w many walked grows has = record {
    offered = λ h. get_or (lists_told w.offered.items) h [];
    ways = ways_told w.ways.items;
    as_many = walked.as_many ∙ (let e : harts ≡ length hs = omega (arith, many) in e);
    walks = λ h l. subst (λ (j : ℕ). (ps : List Spot) × IsWalkedFrom owns k image j h n (get_or (lists_told w.offered.items) h []) (get_or (ways_told w.ways.items) h []) ps)
        (let e : harts ≡ length hs = omega (arith, many) in e) (walked.walks h (omega (arith, l, many)));
    grows = λ h s small there. grows h s there;
    has = has;
  }

  -- all endings are in a table, if all nodes are looked through
  pub whole_from : NodeTablesAreWhole → (nodes : List KeptNode) (table : List Ending) → AreFresh hs → k * length hs ≤ output_room → AreNobodys owns (length hs) see →
      (n : Node) × Contains (nodes_told image nodes) n × IsServed owns k image hs n [] →
      ((j : ℕ) (d : KeptNode) → j < length nodes → IsLookedThroughFrom owns k image hs see (nodes_told image nodes) table (node_told image (get_or nodes j d))) →
      (c : ConsoleState) → c.output ≡ [] → AllEndingsWithin k image hs c see table
  whole_from law nodes table fresh room nobodys first each c none =
      law owns k image hs c see (nodes_told image nodes) table first.0 fresh (let l = ap (λ (bs : List ℕ). length bs) none in omega (arith, l, room)) nobodys first.1 first.2 (λ n there.
      let x = told_by (node_told image) nodes n there in
      subst (λ (m : Node). IsLookedThroughFrom owns k image hs see (nodes_told image nodes) table m) (ap (node_told image) x.1.2 ∙ x.2) (each x.1.0 x.0 x.1.1))
