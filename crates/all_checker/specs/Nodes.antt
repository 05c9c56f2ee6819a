-- What all harts may do from a node on, and where that leads.
use Rattle.std.specs.Prelude.{◌≡◌, ℕ, ◌+◌, ◌<◌, Bool, List, [], length, map, Option, None, Some, slice_index_or, Contains}
use Rattle.std.specs.Global.{Vec}
use Rattle.pages.specs.declared.access.Range.{Range}
use Rattle.pages.specs.Memory.{Memory}
use Rattle.hart_step.specs.declared.hart.Hart.{Hart}
use Rattle.all_endings.specs.Offering.{AreFresh}
use Rattle.all_endings.specs.StoreLists.{Stored}
use Rattle.all_endings.specs.Walking.{HartEnding}
use Rattle.hart_ends.specs.Told.{bytes_told, ways_told}
use Rattle.hart_states.specs.declared.listed_store.ListedStore.{ListedStore}
use Rattle.hart_states.specs.States.{listed}
use Rattle.private_bytes.specs.PrivateWalks.{Spot}
use Rattle.list_suffixes.specs.NodeWalks.{IsWalkedFrom, seen_from}
use Rattle.list_suffixes.specs.Serving.{Node}
use Rattle.ending_nodes.specs.declared.node.Node.{Node as KeptNode}
use Rattle.ending_nodes.specs.KeptNodes.{node_told, nodes_told}
use Rattle.ending_nodes.specs.Raising.{ServesNext}
use Rattle.all_checker.specs.declared.looking.Look.{Look}
use Rattle.all_checker.specs.declared.looking.Look.TheVariants.{Unknown, Whole}
use Rattle.all_checker.specs.declared.looking.NodeWalks.{NodeWalks}
use Rattle.all_checker.specs.declared.sighting.NodeSight.{NodeSight}
use Rattle.all_checker.specs.declared.sighting.Sight.{Sight}
use Rattle.all_checker.specs.declared.sighting.Sight.TheVariants as sights

abbrev pub lists_told : List (Vec ListedStore) → List (List Stored)
lists_told ls = map (λ (l : Vec ListedStore). listed l.items) ls

-- hart h, of so many, is walked from a node on, by some spots
abbrev pub HasWalkFrom : (ℕ → ℕ → Bool) → ℕ → Memory → ℕ → ℕ → Node → List Stored → List HartEnding → Type 0
HasWalkFrom owns k image harts h n offered ends = (ps : List Spot) × IsWalkedFrom owns k image harts h n offered ends ps

-- each of so many harts is
pub record AreWalked (owns : ℕ → ℕ → Bool) (k : ℕ) (image : Memory) (harts : ℕ) (n : Node) (w : NodeWalks) : Type 0 where
  pub as_many : length (ways_told w.ways.items) ≡ harts
  pub walks : (h : ℕ) → h < harts → HasWalkFrom owns k image harts h n (slice_index_or (lists_told w.offered.items) h []) (slice_index_or (ways_told w.ways.items) h [])

abbrev pub IsLookOf : (ℕ → ℕ → Bool) → ℕ → Memory → ℕ → Node → Look → Type 0
IsLookOf owns k image harts n (Whole w) = AreWalked owns k image harts n w
IsLookOf owns k image harts n (Unknown why) = Unit {0}

-- one of some nodes serves, with a store more, the lists that a node serves, whichever of so many harts begin
abbrev pub HaveNext : (ℕ → ℕ → Bool) → ℕ → Memory → ℕ → List KeptNode → KeptNode → Stored → Type 0
HaveNext owns k image harts ns n s =
    (hs : List Hart) → length hs ≡ harts → AreFresh hs → (t : Node) × Contains (nodes_told image ns) t × ServesNext owns k image hs (node_told image n) s t

-- each of the stores that may come next leads from a node to one of some nodes
abbrev pub LeadOn : (ℕ → ℕ → Bool) → ℕ → Memory → ℕ → List KeptNode → KeptNode → List (Vec ListedStore) → Type 0
LeadOn owns k image harts ns n offered = (h : ℕ) (s : Stored) → Contains (slice_index_or (lists_told offered) h []) s → HaveNext owns k image harts ns n s

-- what is to be known of a node: its harts are walked, the bytes of some ranges are those that its stores leave, and the nodes are those that come next
pub record IsSeenThrough (owns : ℕ → ℕ → Bool) (k : ℕ) (image : Memory) (harts : ℕ) (see : List Range) (n : KeptNode) (x : NodeSight) : Type 0 where
  pub walked : AreWalked owns k image harts (node_told image n) x.walks
  pub seen : bytes_told x.seen.items ≡ seen_from see (node_told image n)
  pub next : LeadOn owns k image harts x.next.items n x.walks.offered.items

abbrev pub IsSightOf : (ℕ → ℕ → Bool) → ℕ → Memory → ℕ → List Range → KeptNode → Sight → Type 0
IsSightOf owns k image harts see n (sights.Whole x) = IsSeenThrough owns k image harts see n x
IsSightOf owns k image harts see n (sights.Unknown why) = Unit {0}

-- what is in some slots is of the nodes from one on
abbrev pub AreSightsFrom : (ℕ → ℕ → Bool) → ℕ → Memory → ℕ → List Range → List KeptNode → ℕ → List (Option Sight) → Type 0
AreSightsFrom owns k image harts see ns from slots =
    (j : ℕ) (x : Sight) (d : KeptNode) → slice_index_or slots j None ≡ Some x → IsSightOf owns k image harts see (slice_index_or ns (from + j) d) x
