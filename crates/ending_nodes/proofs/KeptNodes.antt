-- Nodes as they are told.
use Rattle.std.proofs.Common.{◌≡◌, ℕ, ◌+◌, ◌<◌, ◌≤◌, List, [], ◌∷◌, ◌++◌, length, map, get_or, Contains, sym, ap, ◌∙◌, subst, inl, inr, arith}
use Rattle.std.proofs.lemmas.Bool.{cases_lt}
use Rattle.std.proofs.lemmas.List.{append_assoc, map-append}
use Rattle.std.proofs.lemmas.List.Elements.{Contains-append_left}
use Rattle.std.specs.Global.{Vec}
use Rattle.pages.specs.Memory.{Memory}
use Rattle.hart_step.specs.declared.hart.Hart.{Hart}
use Rattle.all_endings.specs.Endings.{opening_bytes}
use Rattle.all_endings.specs.StoreLists.{Stored}
use Rattle.all_endings.specs.Tables.{memory_of}
use Rattle.hart_states.specs.declared.listed_store.ListedStore.{ListedStore}
use Rattle.hart_states.specs.States.{listed}
use Rattle.private_bytes.specs.PrivateWalks.{Spot, first_spot}
use Rattle.list_suffixes.specs.Serving.{Node, NodeStandsFor, first_node}
use Rattle.list_suffixes.specs.SettledWalks.{AreAhead}
use Rattle.run_places.specs.declared.place.Place.{Place}
use Rattle.run_places.specs.Spots.{spots_of}
use Rattle.ending_nodes.specs.declared.node.Node.{Node as KeptNode}
use Rattle.ending_nodes.specs.KeptNodes.{AreFirst, Grow, node_over, node_told, nodes_told, spots_at, spots_told}
use Rattle.ending_nodes.proofs.Told.{none_in, single, told_before, told_here, told_last, told_past}

abbrev pub one_told : Vec Place → List Spot
one_told q = spots_of q.items

-- ---- the spots of one hart more

pub spots_more : (P : ℕ → List Spot → Type 0) (n : ℕ) (ps qs : List (Vec Place)) (v : Vec Place) → length ps ≡ n → qs ≡ ps ++ v ∷ [] → P n (spots_of v.items) → ((h : ℕ) → h < n → P h (spots_at ps h)) →
    (h : ℕ) → h < n + 1 → P h (spots_at qs h)
spots_more P n ps qs v many grown here before h l = elim (cases_lt h n) [
  | inl small ↦ subst (λ (ss : List Spot). P h ss) (sym (told_before one_told ps qs v h [] grown (omega (arith, small, many)))) (before h small)
  | inr large ↦
      let same : n ≡ h = omega (arith, l, large) in
      subst (λ (ss : List Spot). P h ss) (sym (told_last one_told ps qs v h [] grown (omega (arith, same, many)))) (subst (λ (j : ℕ). P j (spots_of v.items)) same here)
]

pub spots_here : (ps : List (Vec Place)) (h : ℕ) (v d : Vec Place) → h < length ps → v ≡ get_or ps h d → spots_at ps h ≡ spots_of v.items
spots_here ps h v d l at = told_here one_told ps h v d [] l at

-- ---- where harts begin

abbrev pub AreFirstAt : List Hart → ℕ → List Spot → Type 0
AreFirstAt hs h ss = (p : Spot) → Contains (get_or (map (λ (s : Hart). first_spot s ∷ []) hs) h []) p → AreAhead ss p

pub first_here : (hs : List Hart) (n : ℕ) (hart d : Hart) (ss : List Spot) → n < length hs → hart ≡ get_or hs n d → AreAhead ss (first_spot hart) → AreFirstAt hs n ss
first_here hs n hart d ss l at ahead p there =
    let begins : get_or (map (λ (s : Hart). first_spot s ∷ []) hs) n [] ≡ first_spot hart ∷ [] = told_here (λ (s : Hart). first_spot s ∷ []) hs n hart d [] l at in
    let same : first_spot hart ≡ p = single (first_spot hart) p (subst (λ (qs : List Spot). Contains qs p) begins there) in
    subst (λ (q : Spot). AreAhead ss q) same ahead

pub first_stands : (image : Memory) (hs : List Hart) (n : KeptNode) → n.behind.items ≡ [] → n.list.items ≡ [] → AreFirst hs n.places.items → NodeStandsFor (length hs) (node_told image n) (first_node image hs)
first_stands image hs n none empty first = record {
  stores = ap listed empty;
  memory = λ x. ap (λ (b : List ListedStore). memory_of (listed b) (opening_bytes image) x) none;
  spots = λ h p l there. first h p l there;
}

-- ---- one store more

abbrev node_as : Memory → List ListedStore → List Stored → List (List Spot) → Node
node_as image b m ss = record { memory = λ x. memory_of (listed b) (opening_bytes image) x; stores = m; spots = λ h. get_or ss h [] }

told_as : (image : Memory) (b c : List ListedStore) (m l : List Stored) (ss qs : List (List Spot)) → b ≡ c → m ≡ l → ss ≡ qs → node_as image b m ss ≡ node_as image c l qs
told_as image b c m l ss qs behind list places =
    ap (λ (u : List ListedStore). node_as image u m ss) behind ∙ (ap (λ (u : List Stored). node_as image c u ss) list ∙ ap (λ (u : List (List Spot)). node_as image c l u) places)

pub told_over : (image : Memory) (n t : KeptNode) (m : List ListedStore) → t.behind.items ≡ n.behind.items → t.list.items ≡ m → spots_told t.places.items ≡ spots_told n.places.items →
    node_told image t ≡ node_over image n (listed m)
told_over image n t m behind list places =
    told_as image t.behind.items n.behind.items (listed t.list.items) (listed m) (spots_told t.places.items) (spots_told n.places.items) behind (ap listed list) places

pub told_same : (image : Memory) (n t : KeptNode) → t.behind.items ≡ n.behind.items → t.list.items ≡ n.list.items → spots_told t.places.items ≡ spots_told n.places.items → node_told image t ≡ node_told image n
told_same image n t behind list places =
    told_as image t.behind.items n.behind.items (listed t.list.items) (listed n.list.items) (spots_told t.places.items) (spots_told n.places.items) behind (ap listed list) places

-- ---- standing for another one

pub nodes_stand : (image : Memory) (harts : ℕ) (t n : KeptNode) → t.behind.items ≡ n.behind.items → t.list.items ≡ n.list.items →
    ((h : ℕ) (p : Spot) → Contains (spots_at n.places.items h) p → AreAhead (spots_at t.places.items h) p) → NodeStandsFor harts (node_told image t) (node_told image n)
nodes_stand image harts t n behind list stand = record {
  stores = ap listed list;
  memory = λ x. ap (λ (b : List ListedStore). memory_of (listed b) (opening_bytes image) x) behind;
  spots = λ h p l there. stand h p there;
}

-- what is ahead of the others of one hart
pub stand_here : (ps os : List (Vec Place)) (n h : ℕ) (v w : Vec Place) (a b : List Place) → n ≡ h → n < length ps → n < length os → v ≡ get_or ps n v → w ≡ get_or os n w → a ≡ v.items → b ≡ w.items →
    ((p : Spot) → Contains (spots_of b) p → AreAhead (spots_of a) p) → (p : Spot) → Contains (spots_at os h) p → AreAhead (spots_at ps h) p
stand_here ps os n h v w a b same l k at bt e f ahead p there =
    let here : spots_at os h ≡ spots_of b = ap (spots_at os) (sym same) ∙ (spots_here os n w w k bt ∙ ap spots_of (sym f)) in
    let those : spots_at ps h ≡ spots_of a = ap (spots_at ps) (sym same) ∙ (spots_here ps n v v l at ∙ ap spots_of (sym e)) in
    subst (λ (ss : List Spot). AreAhead ss p) (sym those) (ahead p (subst (λ (ss : List Spot). Contains ss p) here there))

pub none_past : (os : List (Vec Place)) (h : ℕ) (p : Spot) → length os ≤ h → Contains (spots_at os h) p → ⊥
none_past os h p l there = none_in p (subst (λ (ss : List Spot). Contains ss p) (told_past one_told os h [] l) there)

-- ---- nodes that grow

pub nodes_stay : (image : Memory) (old new : List KeptNode) (n : Node) → Grow old new → Contains (nodes_told image old) n → Contains (nodes_told image new) n
nodes_stay image old new n g c =
    subst (λ (ns : List Node). Contains ns n) (sym (ap (nodes_told image) g.behind ∙ map-append (node_told image) old g.more)) (Contains-append_left (nodes_told image old) (nodes_told image g.more) n c)

pub nodes_on : (a b c : List KeptNode) → Grow a b → Grow b c → Grow a c
nodes_on a b c g h = record {
  more = g.more ++ h.more;
  behind = h.behind ∙ (ap (λ (ns : List KeptNode). ns ++ h.more) g.behind ∙ append_assoc a g.more h.more);
}
