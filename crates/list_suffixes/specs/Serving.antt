-- Nodes: where the runs of harts go on against some stores of a list, over the memory that the others left. One node may serve many lists.
use Rattle.std.specs.Prelude.{◌≡◌, ℕ, ◌+◌, ◌<◌, ◌≤◌, ◌⊎◌, Bool, true, false, List, [], ◌∷◌, ◌++◌, length, map, slice_index_or, Contains, Some}
use Rattle.pages.specs.Memory.{Memory}
use Rattle.rv64_decode.specs.declared.instruction.Instr.TheVariants.{Ecall}
use Rattle.round_schedule.specs.Accesses.{stores as writing}
use Rattle.hart_step.specs.declared.hart.Hart.{Hart}
use Rattle.hart_step.specs.declared.hart.Stop.{Stop}
use Rattle.hart_step.specs.DecodedCode.{decoded}
use Rattle.all_endings.specs.Endings.{opening_bytes}
use Rattle.all_endings.specs.Halting.{Halts, KnowsRegisters}
use Rattle.all_endings.specs.Offering.{AreFresh}
use Rattle.all_endings.specs.RunStates.{Move}
use Rattle.all_endings.specs.StoreLists.{Stored}
use Rattle.all_endings.specs.Tables.{memory_of}
use Rattle.private_bytes.specs.Owners.{KeepsToItself, is_private}
use Rattle.private_bytes.specs.PrivateWalks.{Spot, first_spot}
use Rattle.list_suffixes.specs.ApartRuns.{AreOfThoseKept, NoneLost, RunsApart, StandsForAlways, spots_after}
use Rattle.list_suffixes.specs.Staying.{AreShared, MayBeLaid, kept, laid, spot_kept}

-- memory, the stores that it hasn't, and for each hart spots from which its runs go on, with times that are counted by these stores
pub record Node : Type 0 where
  pub memory : ℕ → ℕ
  pub stores : List Stored
  pub spots : ℕ → List Spot

-- ---- where a run is

-- each of the stores that moves do to shared bytes is one of the first n of the list
abbrev pub StoreWithin : (ℕ → ℕ → Bool) → ℕ → ℕ → List Move → Type 0
StoreWithin owns h n vs = (v : Move) → Contains vs v → writing v.access ≡ true → is_private owns h v.access ≡ false → v.time < n

-- a run of hart h, of so many, that leads to a spot is still on its way: what it stored is among the first n, and it neither ends there nor breaks
-- a rule of `IsWalkedApart`
pub record IsOnItsWay (owns : ℕ → ℕ → Bool) (image : Memory) (harts h n : ℕ) (vs : List Move) (q : Spot) : Type 0 where
  pub stores : StoreWithin owns h n vs
  pub apart : KeepsToItself owns image harts h q.place.state
  pub calls : decoded image q.place.state.pc ≡ Some Ecall → q.constant ≡ true
  pub goes_on : (stop : Stop) → KnowsRegisters q.place.state → Halts image q.place.state stop → ⊥

-- a run from a spot against a list comes past one for which one of some spots stands, with its times counted by the stores that stay. From there on
-- it is of these; before that it did stores among the first n alone
pub record GoesPast (owns : ℕ → ℕ → Bool) (h : ℕ) (stays : List Bool) (n : ℕ) (m : List Stored) (start : Spot) (vs : List Move) (spots : List Spot) : Type 0 where
  pub before : List Move
  pub rest : List Move
  pub joined : vs ≡ before ++ rest
  pub spot : Spot
  pub there : Contains spots spot
  pub stands : StandsForAlways spot (spot_kept stays m (spots_after owns h m start before))
  pub stores : StoreWithin owns h n before
  pub behind : AreOfThoseKept owns h stays m (spots_after owns h m start before) rest

-- each run of hart h from a spot, against the first n stores and any behind them, up to k instructions, is on its way or comes past some spots,
-- if none of its spots is lost
abbrev pub ComePast : (ℕ → ℕ → Bool) → ℕ → Memory → ℕ → ℕ → List Bool → List Stored → (ℕ → ℕ) → Spot → List Spot → Type 0
ComePast owns k image harts h stays m opening start spots =
    (e : List Stored) (vs : List Move) → AreShared owns h (m ++ e) → start.place.count + length vs ≤ k → RunsApart owns image h (m ++ e) opening start vs →
    NoneLost owns h (m ++ e) start vs →
    IsOnItsWay owns image harts h (length m) vs (spots_after owns h (m ++ e) start vs) ⊎ GoesPast owns h stays (length m) (m ++ e) start vs spots

-- ---- the lists that a node serves

-- its stores are those of the list that stay, its memory is what the others left, and the runs of harts against the list and any stores behind it
-- come past its spots
pub record IsServed (owns : ℕ → ℕ → Bool) (k : ℕ) (image : Memory) (hs : List Hart) (n : Node) (m : List Stored) : Type 0 where
  pub stays : List Bool
  pub within : length stays ≤ length m
  pub free : MayBeLaid stays m
  pub stores : n.stores ≡ kept stays m
  pub memory : (x : ℕ) → n.memory x ≡ memory_of (laid stays m) (opening_bytes image) x
  pub runs : (h : ℕ) (start : Hart) → h < length hs → start ≡ slice_index_or hs h start →
      ComePast owns k image (length hs) h stays m (opening_bytes image) (first_spot start) (n.spots h)

-- ---- laws

-- where harts begin
abbrev pub first_node : Memory → List Hart → Node
first_node image hs = record { memory = opening_bytes image; stores = []; spots = λ h. slice_index_or (map (λ (s : Hart). first_spot s ∷ []) hs) h [] }

abbrev pub FirstNodeServes : Type 0
FirstNodeServes = (owns : ℕ → ℕ → Bool) (k : ℕ) (image : Memory) (hs : List Hart) → AreFresh hs → IsServed owns k image hs (first_node image hs) []

-- with one store more, a node serves each list that it served, with this store more
abbrev pub node_with : Node → Stored → Node
node_with n s = record n { stores = n.stores ++ s ∷ [] }

abbrev pub LongerListsAreServed : Type 0
LongerListsAreServed = (owns : ℕ → ℕ → Bool) (k : ℕ) (image : Memory) (hs : List Hart) (n : Node) (m : List Stored) (s : Stored) →
    IsServed owns k image hs n m → IsServed owns k image hs (node_with n s) (m ++ s ∷ [])

-- a node stands for another one of so many harts: the same memory and stores, and for each spot of the other one there is one that stands for it
pub record NodeStandsFor (harts : ℕ) (t n : Node) : Type 0 where
  pub stores : t.stores ≡ n.stores
  pub memory : (x : ℕ) → t.memory x ≡ n.memory x
  pub spots : (h : ℕ) (p : Spot) → h < harts → Contains (n.spots h) p → (q : Spot) × Contains (t.spots h) q × StandsForAlways q p

abbrev pub StandingNodesServe : Type 0
StandingNodesServe = (owns : ℕ → ℕ → Bool) (k : ℕ) (image : Memory) (hs : List Hart) (t n : Node) (m : List Stored) →
    NodeStandsFor (length hs) t n → IsServed owns k image hs n m → IsServed owns k image hs t m

-- t is n, where some of its stores stay, and what the others left is in memory; and the runs of harts from n's spots come past those of t
pub record IsRaised (owns : ℕ → ℕ → Bool) (k : ℕ) (image : Memory) (harts : ℕ) (stays : List Bool) (n t : Node) : Type 0 where
  pub within : length stays ≤ length n.stores
  pub free : MayBeLaid stays n.stores
  pub stores : t.stores ≡ kept stays n.stores
  pub memory : (x : ℕ) → t.memory x ≡ memory_of (laid stays n.stores) n.memory x
  pub runs : (h : ℕ) (p : Spot) → h < harts → Contains (n.spots h) p → ComePast owns k image harts h stays n.stores n.memory p (t.spots h)

abbrev pub RaisedNodesServe : Type 0
RaisedNodesServe = (owns : ℕ → ℕ → Bool) (k : ℕ) (image : Memory) (hs : List Hart) (stays : List Bool) (n t : Node) (m : List Stored) →
    AreFresh hs → IsRaised owns k image (length hs) stays n t → IsServed owns k image hs n m → IsServed owns k image hs t m
