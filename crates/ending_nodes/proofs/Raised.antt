-- Nodes of which some stores are laid into memory.
use Rattle.std.proofs.Common.{◌≡◌, ℕ, ◌≤◌, Bool, List, length, Option, Some, IfSome, sym, ap, ◌∙◌, subst, inl, inr}
use Rattle.std.proofs.lemmas.Bool.{cases_lt}
use Rattle.std.specs.Global.{Vec}
use Rattle.pages.specs.Memory.{Memory}
use Rattle.all_endings.specs.Endings.{opening_bytes}
use Rattle.all_endings.specs.StoreLists.{Stored}
use Rattle.all_endings.specs.Tables.{memory_of}
use Rattle.hart_states.specs.declared.listed_store.ListedStore.{ListedStore}
use Rattle.hart_states.specs.Opening.{opening_of}
use Rattle.hart_states.specs.States.{listed}
use Rattle.own_moves.specs.Owned.{owns_of}
use Rattle.own_moves.specs.declared.owned.OwnDoubleword.{OwnDoubleword}
use Rattle.list_suffixes.specs.Serving.{IsRaised, Node}
use Rattle.list_suffixes.specs.SettledWalks.{IsSettledWalk, SettledWalksComePast}
use Rattle.list_suffixes.specs.Staying.{MayBeLaid}
use Rattle.run_places.specs.declared.following.Against.{Against}
use Rattle.run_places.specs.declared.place.Place.{Place}
use Rattle.run_places.specs.Spots.{spots_of}
use Rattle.settled_walks.specs.KnownWalks.{IsKnownWalk}
use Rattle.ending_nodes.specs.declared.node.Node.{Node as KeptNode}
use Rattle.ending_nodes.specs.declared.program.MappedProgram.{MappedProgram}
use Rattle.ending_nodes.specs.KeptNodes.{node_over, node_told, spots_at}
use Rattle.ending_nodes.specs.Raising.{AreKnown, AreSettled, IsAgainst, IsLaid, Settles}
use Rattle.ending_nodes.proofs.KeptNodes.{none_past}

-- ---- what harts are walked against

module _ (a : Against) (p : MappedProgram) (n : KeptNode) (l : List ListedStore) (h : ℕ) (is : IsAgainst a p n l h) where
  -- what is said of it is said of the program
  pub told_of : (F : List OwnDoubleword → ℕ → Memory → ℕ → ℕ → Type 0) → F a.owned.now a.steps a.memory.pages.now.memory a.harts a.hart → F p.owned.now p.steps p.pages.now.memory (length p.maps.now) h
  told_of F said =
      subst (λ (o : List OwnDoubleword). F o p.steps p.pages.now.memory (length p.maps.now) h) is.owned
      (subst (λ (k : ℕ). F a.owned.now k p.pages.now.memory (length p.maps.now) h) is.steps
      (subst (λ (g : Memory). F a.owned.now a.steps g (length p.maps.now) h) is.image
      (subst (λ (j : ℕ). F a.owned.now a.steps a.memory.pages.now.memory j h) is.harts
      (subst (λ (j : ℕ). F a.owned.now a.steps a.memory.pages.now.memory a.harts j) is.hart said))))

  -- and the other way round
  pub asked_of : (F : List OwnDoubleword → Memory → ℕ → Type 0) → F p.owned.now p.pages.now.memory h → F a.owned.now a.memory.pages.now.memory a.hart
  asked_of F said =
      subst (λ (o : List OwnDoubleword). F o a.memory.pages.now.memory a.hart) (sym is.owned)
      (subst (λ (g : Memory). F p.owned.now g a.hart) (sym is.image)
      (subst (λ (j : ℕ). F p.owned.now p.pages.now.memory j) (sym is.hart) said))

  pub over_stores : (node_over p.pages.now.memory n (listed l)).stores ≡ listed a.list.now
  over_stores = ap listed (sym is.list)

  pub over_memory : (node_over p.pages.now.memory n (listed l)).memory ≡ opening_of a.memory
  over_memory =
      ap (λ (b : List ListedStore). memory_of (listed b) (opening_bytes p.pages.now.memory)) (sym is.behind)
      ∙ ap (λ (g : Memory). memory_of (listed a.memory.behind.now) (opening_bytes g)) (sym is.image)

  -- what is known of its walk
  pub known_by : (qs : List Place) (r : Option (Vec Place)) (found : Vec Place) → spots_of qs ≡ spots_at n.places.items h → r ≡ Some found →
      IfSome r (λ (ps : Vec Place). (t : Node) → t.stores ≡ listed a.list.now → t.memory ≡ opening_of a.memory → t.spots a.hart ≡ spots_of qs →
      IsKnownWalk (owns_of a.owned.now) a.steps a.memory.pages.now.memory a.harts a.hart t (spots_of ps.items)) →
      IsKnownWalk (owns_of p.owned.now) p.steps p.pages.now.memory (length p.maps.now) h (node_over p.pages.now.memory n (listed l)) (spots_of found.items)
  known_by qs r found at some said =
      let t = node_over p.pages.now.memory n (listed l) in
      let one = subst (λ (o : Option (Vec Place)). IfSome o (λ (ps : Vec Place). (u : Node) → u.stores ≡ listed a.list.now → u.memory ≡ opening_of a.memory → u.spots a.hart ≡ spots_of qs →
      IsKnownWalk (owns_of a.owned.now) a.steps a.memory.pages.now.memory a.harts a.hart u (spots_of ps.items))) some said in
      told_of (λ (o : List OwnDoubleword) (k : ℕ) (g : Memory) (j i : ℕ). IsKnownWalk (owns_of o) k g j i t (spots_of found.items))
      (one t over_stores over_memory (ap t.spots is.hart ∙ sym at))

  -- and of its new places
  pub settled_by : (stays : List Bool) (qs : List Place) (r : Option (Vec Place)) (found : Vec Place) → r ≡ Some found →
      IfSome r (λ (new : Vec Place). (t : Node) → t.stores ≡ listed a.list.now → t.memory ≡ opening_of a.memory →
      Settles (owns_of a.owned.now) a.steps a.memory.pages.now.memory a.harts stays a.hart t (spots_of qs) (spots_of new.items)) →
      Settles (owns_of p.owned.now) p.steps p.pages.now.memory (length p.maps.now) stays h (node_over p.pages.now.memory n (listed l)) (spots_of qs) (spots_of found.items)
  settled_by stays qs r found some said =
      let t = node_over p.pages.now.memory n (listed l) in
      let one = subst (λ (o : Option (Vec Place)). IfSome o (λ (new : Vec Place). (u : Node) → u.stores ≡ listed a.list.now → u.memory ≡ opening_of a.memory →
      Settles (owns_of a.owned.now) a.steps a.memory.pages.now.memory a.harts stays a.hart u (spots_of qs) (spots_of new.items))) some said in
      told_of (λ (o : List OwnDoubleword) (k : ℕ) (g : Memory) (j i : ℕ). Settles (owns_of o) k g j stays i t (spots_of qs) (spots_of found.items)) (one t over_stores over_memory)

-- ---- raised nodes

pub raised_by : (owns : ℕ → ℕ → Bool) (k : ℕ) (image : Memory) (harts : ℕ) → SettledWalksComePast → (stays : List Bool) (n t : KeptNode) (m : List Stored) (walks places : List (Vec Place)) →
    length stays ≤ length m → MayBeLaid stays m → IsLaid stays m n places t → AreKnown owns k image harts n m walks → AreSettled owns k image harts stays n m walks places →
    IsRaised owns k image harts stays (node_over image n m) (node_told image t)
raised_by owns k image harts law stays n t m walks places within free laid known settled = record {
  within = within;
  free = free;
  stores = laid.stores;
  memory = λ x. laid.memory (opening_bytes image) x;
  runs = λ h p l there. elim (cases_lt h (length n.places.items)) [
    | inl small ↦
        law owns k image harts h stays (node_over image n m) (spots_at walks h) (spots_at t.places.items h) within
        (subst (λ (ps : List (Vec Place)). IsSettledWalk owns k image harts h stays (node_over image n m) (spots_at walks h) (spots_at ps h)) (sym laid.places)
        (settled h small (known h small) within free)) p there
    | inr large ↦ absurd (none_past n.places.items h p large there)
  ];
}
