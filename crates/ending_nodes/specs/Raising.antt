-- Nodes of which some stores are laid into memory.
use Rattle.std.specs.Prelude.{◌≡◌, ℕ, ◌<◌, ◌≤◌, Bool, true, List, [], ◌∷◌, ◌++◌, length, slice_index_or}
use Rattle.std.specs.Global.{Vec}
use Rattle.pages.specs.Memory.{Memory}
use Rattle.hart_step.specs.declared.hart.Hart.{Hart}
use Rattle.all_endings.specs.StoreLists.{Stored, has_byte, no_store}
use Rattle.all_endings.specs.Tables.{memory_of}
use Rattle.hart_states.specs.declared.listed_store.ListedStore.{ListedStore}
use Rattle.hart_states.specs.States.{listed}
use Rattle.private_bytes.specs.PrivateWalks.{Spot}
use Rattle.list_suffixes.specs.Serving.{IsServed, Node}
use Rattle.list_suffixes.specs.SettledWalks.{IsSettledWalk}
use Rattle.list_suffixes.specs.Staying.{MayBeLaid, kept, laid, stays_at}
use Rattle.early_reads.specs.Checking.{map_of}
use Rattle.early_reads.specs.EarlyMaps.{IsRight}
use Rattle.early_reads.specs.declared.early_point.EarlyPoint.{EarlyPoint}
use Rattle.run_places.specs.declared.following.Against.{Against}
use Rattle.run_places.specs.declared.place.Place.{Place}
use Rattle.settled_walks.specs.KnownWalks.{IsKnownWalk}
use Rattle.ending_nodes.specs.declared.node.Node.{Node as KeptNode}
use Rattle.ending_nodes.specs.declared.program.MappedProgram.{MappedProgram}
use Rattle.ending_nodes.specs.KeptNodes.{node_over, spots_at}

-- each hart's map of its code is right
abbrev pub AreRight : (ℕ → ℕ → Bool) → Memory → List (Vec EarlyPoint) → Type 0
AreRight owns image maps = (h : ℕ) (d : Vec EarlyPoint) → h < length maps → IsRight (map_of (slice_index_or maps h d).items) owns image h

-- ---- stores

-- none before a store that stays shares a byte with it
abbrev pub MeetsNone : List Bool → List Stored → ℕ → Type 0
MeetsNone stays m k = (j x : ℕ) → j < k → stays_at stays j ≡ true → has_byte (slice_index_or m j no_store) x ≡ true → has_byte (slice_index_or m k no_store) x ≡ true → ⊥

-- a node with these places is another one with a list in place of its own, of which some stores stay
pub record IsLaid (stays : List Bool) (m : List Stored) (n : KeptNode) (ps : List (Vec Place)) (t : KeptNode) : Type 0 where
  pub stores : listed t.list.items ≡ kept stays m
  pub memory : (opening : ℕ → ℕ) (x : ℕ) → memory_of (listed t.behind.items) opening x ≡ memory_of (laid stays m) (memory_of (listed n.behind.items) opening) x
  pub places : t.places.items ≡ ps

-- ---- walks

-- what hart h is walked against: a list, over the memory of a node
pub record IsAgainst (a : Against) (p : MappedProgram) (n : KeptNode) (l : List ListedStore) (h : ℕ) : Type 0 where
  pub owned : a.owned.now ≡ p.owned.now
  pub steps : a.steps ≡ p.steps
  pub image : a.memory.pages.now.memory ≡ p.pages.now.memory
  pub harts : a.harts ≡ length p.maps.now
  pub hart : a.hart ≡ h
  pub behind : a.memory.behind.now ≡ n.behind.items
  pub list : a.list.now ≡ l

-- the places that each hart's runs come to by what is known alone
abbrev pub AreKnown : (ℕ → ℕ → Bool) → ℕ → Memory → ℕ → KeptNode → List Stored → List (Vec Place) → Type 0
AreKnown owns k image harts n m ps = (h : ℕ) → h < length n.places.items → IsKnownWalk owns k image harts h (node_over image n m) (spots_at ps h)

-- such places of hart h are settled by new ones, where some stores stay
abbrev pub Settles : (ℕ → ℕ → Bool) → ℕ → Memory → ℕ → List Bool → ℕ → Node → List Spot → List Spot → Type 0
Settles owns k image harts stays h n ps new =
    IsKnownWalk owns k image harts h n ps → length stays ≤ length n.stores → MayBeLaid stays n.stores → IsSettledWalk owns k image harts h stays n ps new

abbrev pub AreSettled : (ℕ → ℕ → Bool) → ℕ → Memory → ℕ → List Bool → KeptNode → List Stored → List (Vec Place) → List (Vec Place) → Type 0
AreSettled owns k image harts stays n m ps new = (h : ℕ) → h < length n.places.items → Settles owns k image harts stays h (node_over image n m) (spots_at ps h) (spots_at new h)

-- ---- serving

-- with one store more, a node serves the lists that another one serves
abbrev pub ServesNext : (ℕ → ℕ → Bool) → ℕ → Memory → List Hart → Node → Stored → Node → Type 0
ServesNext owns k image hs n s t = (m : List Stored) → IsServed owns k image hs n m → IsServed owns k image hs t (m ++ s ∷ [])
