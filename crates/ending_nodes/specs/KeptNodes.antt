-- Nodes as the laws of lists that are one have them.
use Rattle.std.specs.Prelude.{◌≡◌, ℕ, ◌<◌, Bool, List, [], ◌∷◌, ◌++◌, length, map, slice_index_or, Contains}
use Rattle.std.specs.Global.{Vec}
use Rattle.pages.specs.Memory.{Memory}
use Rattle.hart_step.specs.declared.hart.Hart.{Hart}
use Rattle.all_endings.specs.Endings.{opening_bytes}
use Rattle.all_endings.specs.StoreLists.{Stored}
use Rattle.all_endings.specs.Tables.{memory_of}
use Rattle.hart_states.specs.States.{listed}
use Rattle.private_bytes.specs.PrivateWalks.{Spot, first_spot}
use Rattle.list_suffixes.specs.Serving.{IsServed, Node}
use Rattle.list_suffixes.specs.SettledWalks.{AreAhead}
use Rattle.run_places.specs.declared.place.Place.{Place}
use Rattle.run_places.specs.Spots.{spots_of}
use Rattle.ending_nodes.specs.declared.node.Node.{Node as KeptNode}

-- the spots of each hart, and those of one
abbrev pub spots_told : List (Vec Place) → List (List Spot)
spots_told ps = map (λ (q : Vec Place). spots_of q.items) ps

abbrev pub spots_at : List (Vec Place) → ℕ → List Spot
spots_at ps h = slice_index_or (spots_told ps) h []

-- over memory as the program begins
abbrev pub node_told : Memory → KeptNode → Node
node_told image n = record { memory = λ x. memory_of (listed n.behind.items) (opening_bytes image) x; stores = listed n.list.items; spots = λ h. spots_at n.places.items h }

-- the same with other stores in place of its list
abbrev pub node_over : Memory → KeptNode → List Stored → Node
node_over image n m = record (node_told image n) { stores = m }

abbrev pub nodes_told : Memory → List KeptNode → List Node
nodes_told image ns = map (node_told image) ns

-- there is a place for where each hart begins
abbrev pub AreFirst : List Hart → List (Vec Place) → Type 0
AreFirst hs ps = (h : ℕ) (p : Spot) → h < length hs → Contains (slice_index_or (map (λ (s : Hart). first_spot s ∷ []) hs) h []) p → AreAhead (spots_at ps h) p

-- nodes that others were added to, if any
pub record Grow (old new : List KeptNode) : Type 0 where
  pub more : List KeptNode
  pub behind : new ≡ old ++ more

-- one of some nodes serves each list that a node serves, whatever the program
abbrev pub HaveOneFor : List KeptNode → KeptNode → Type 0
HaveOneFor ns n =
    (owns : ℕ → ℕ → Bool) (k : ℕ) (image : Memory) (hs : List Hart) →
    (t : Node) × Contains (nodes_told image ns) t × ((m : List Stored) → IsServed owns k image hs (node_told image n) m → IsServed owns k image hs t m)
