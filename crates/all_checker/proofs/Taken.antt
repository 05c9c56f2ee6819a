-- Nodes that are looked through, one after the other.
use Rattle.std.proofs.Common.{◌≡◌, ℕ, zero, suc, ◌+◌, ◌<◌, ◌≤◌, Bool, List, [], ◌∷◌, ◌++◌, length, get_or, All, Contains, Option, None, Some, refl, sym, ap, ◌∙◌, subst, inl, inr, arith, length-append}
use Rattle.std.proofs.lemmas.Bool.{cases_lt}
use Rattle.std.proofs.lemmas.List.{get_or_append_left}
use Rattle.pages.specs.declared.access.Range.{Range}
use Rattle.pages.specs.Memory.{Memory}
use Rattle.hart_step.specs.declared.hart.Hart.{Hart}
use Rattle.all_endings.specs.Endings.{Ending}
use Rattle.all_endings.specs.Offering.{AreFresh}
use Rattle.all_endings.specs.StoreLists.{Stored}
use Rattle.all_endings.specs.Walking.{AreEndsOf, HartEnding, ending_with}
use Rattle.hart_ends.proofs.Told.{told_by}
use Rattle.hart_ends.specs.Told.{bytes_told, table_told, ways_told}
use Rattle.list_suffixes.specs.NodeWalks.{IsLookedThroughFrom}
use Rattle.list_suffixes.specs.Serving.{IsServed, Node}
use Rattle.ending_nodes.specs.declared.node.Node.{Node as KeptNode}
use Rattle.ending_nodes.specs.KeptNodes.{Grow, HaveOneFor, node_told, nodes_told}
use Rattle.ending_nodes.proofs.KeptNodes.{nodes_stay}
use Rattle.all_checker.specs.declared.sighting.NodeSight.{NodeSight}
use Rattle.all_checker.specs.declared.sighting.Sight.{Sight}
use Rattle.all_checker.specs.declared.taking.LookedNodes.{LookedNodes}
use Rattle.all_checker.specs.Nodes.{AreSightsFrom, HaveNext, IsSeenThrough, IsSightOf}
use Rattle.all_checker.specs.Tables.{AreTaken}
use Rattle.all_checker.proofs.Looked.{looked_by, looked_on}

-- a node that was there is where it was
pub same_node : (old more : List KeptNode) (j : ℕ) (d : KeptNode) → Grow old more → j < length old → get_or more j d ≡ get_or old j d
same_node old more j d g l = ap (λ (ns : List KeptNode). get_or ns j d) g.behind ∙ get_or_append_left old g.more d j l

pub no_fewer : (old more : List KeptNode) → Grow old more → length old ≤ length more
no_fewer old more g = let e = ap (λ (ns : List KeptNode). length ns) g.behind in let l = length-append old g.more in omega (arith, e, l)

-- where there are more nodes, one still stands
pub one_stays : (ns os : List KeptNode) (n : KeptNode) → Grow ns os → HaveOneFor ns n → HaveOneFor os n
one_stays ns os n g have owns k image hs = let t = have owns k image hs in (t.0, nodes_stay image ns os t.0 g t.1, t.2)

-- nodes that stand for those to which a store leads serve as these do
pub have_next : (owns : ℕ → ℕ → Bool) (k : ℕ) (image : Memory) (harts : ℕ) (next ns : List KeptNode) (n : KeptNode) (s : Stored) → All (HaveOneFor ns) next → HaveNext owns k image harts next n s → HaveNext owns k image harts ns n s
have_next owns k image harts next ns n s all have hs many fresh =
    let t = have hs many fresh in
    let x = told_by (node_told image) next t.0 t.1 in
    let had : HaveOneFor ns x.0 = subst (λ (o : KeptNode). HaveOneFor ns o) x.1.2 (all x.1.0 x.0 x.1.1) in
    let u = had owns k image hs in
    (u.0, u.1, λ m served. u.2 (m ++ s ∷ []) (subst (λ (r : Node). IsServed owns k image hs r (m ++ s ∷ [])) (sym x.2) (t.2 m served)))

nothing : {X : Type 0} {x : X} → ◌≡◌ {A = Option X} None (Some x) → ⊥
nothing e = cc

some_within : {X : Type 0} (xs : List (Option X)) (j : ℕ) (x : X) → get_or xs j None ≡ Some x → j < length xs
some_within [] j x e = absurd (nothing e)
some_within (y ∷ ys) zero x e = omega arith
some_within (y ∷ ys) (suc j) x e = let l = some_within ys j x e in omega (arith, l)

module _ (owns : ℕ → ℕ → Bool) (k : ℕ) (image : Memory) (hs : List Hart) (see : List Range) where
  -- the next one is looked through, if its endings are there, and nodes that stand for those to which it leads
  pub taken_more : (harts : ℕ) (t u : LookedNodes) (x : NodeSight) → length hs ≡ harts → AreFresh hs → AreTaken owns k image hs see t → t.done < length t.nodes.all.items →
      ((d : KeptNode) → IsSeenThrough owns k image harts see (get_or t.nodes.all.items t.done d) x) →
      Grow t.nodes.all.items u.nodes.all.items → All (HaveOneFor u.nodes.all.items) x.next.items →
      ((e : Ending) → Contains (table_told t.table.items) e → Contains (table_told u.table.items) e) →
      ((es : List HartEnding) → AreEndsOf (ways_told x.walks.ways.items) es → Contains (table_told u.table.items) (ending_with es (bytes_told x.seen.items))) →
      u.done ≡ t.done + 1 → AreTaken owns k image hs see u
  taken_more harts t u x many fresh taken more sight g all kept added one =
      let old = t.nodes.all.items in
      let new = u.nodes.all.items in
      let was = table_told t.table.items in
      let is = table_told u.table.items in
      let fewer = no_fewer old new g in
      record {
        first = (taken.first.0, nodes_stay image old new taken.first.0 g taken.first.1, taken.first.2);
        within = omega (arith, fewer, more, one);
        looked = λ j d l. elim (cases_lt j t.done) [
          | inl small ↦
              subst (λ (n : KeptNode). IsLookedThroughFrom owns k image hs see (nodes_told image new) is (node_told image n)) (sym (same_node old new j d g (omega (arith, small, more))))
              (looked_on owns k image hs see (nodes_told image old) (nodes_told image new) was is (node_told image (get_or old j d)) (λ n there. nodes_stay image old new n g there) kept (taken.looked j d small))
          | inr large ↦
              let n = get_or old t.done d in
              let seen = sight d in
              let here : IsLookedThroughFrom owns k image hs see (nodes_told image new) is (node_told image n) =
              looked_by owns k image hs see harts (nodes_told image new) is (node_told image n) x.walks many seen.walked
              (λ h s there. have_next owns k image harts x.next.items new n s all (seen.next h s there) hs many fresh)
              (λ es ends. subst (λ (bs : List (List ℕ)). Contains is (ending_with es bs)) seen.seen (added es ends)) in
              let at : t.done ≡ j = omega (arith, l, large, one) in
              let named : n ≡ get_or new j d = sym (same_node old new t.done d g more) ∙ ap (λ (i : ℕ). get_or new i d) at in
              subst (λ (m : KeptNode). IsLookedThroughFrom owns k image hs see (nodes_told image new) is (node_told image m)) named here
        ];
      }

-- what is in the other slots is of the nodes behind
pub sights_on : (owns : ℕ → ℕ → Bool) (k : ℕ) (image : Memory) (harts : ℕ) (see : List Range) (ns os : List KeptNode) (from to : ℕ) (slots rest : List (Option Sight)) (x : Option Sight) →
    Grow ns os → slots ≡ x ∷ rest → to ≡ from + 1 → from + length slots ≤ length ns → AreSightsFrom owns k image harts see ns from slots → AreSightsFrom owns k image harts see os to rest
sights_on owns k image harts see ns os from to slots rest x g is one within sights j y d at =
    let l : j < length rest = some_within rest j y at in
    let long = ap (λ (zs : List (Option Sight)). length zs) is in
    let before : IsSightOf owns k image harts see (get_or ns (from + suc j) d) y = sights (suc j) y d (ap (λ (zs : List (Option Sight)). get_or zs (suc j) None) is ∙ at) in
    let there : from + suc j < length ns = omega (arith, l, long, within) in
    let e : from + suc j ≡ to + j = omega (arith, one) in
    let named : get_or ns (from + suc j) d ≡ get_or os (to + j) d = sym (same_node ns os (from + suc j) d g there) ∙ ap (λ (i : ℕ). get_or os i d) e in
    subst (λ (n : KeptNode). IsSightOf owns k image harts see n y) named before

-- the first slot is of the first node
pub first_sight : (owns : ℕ → ℕ → Bool) (k : ℕ) (image : Memory) (harts : ℕ) (see : List Range) (ns : List KeptNode) (from : ℕ) (slots rest : List (Option Sight)) (x : Sight) →
    slots ≡ Some x ∷ rest → AreSightsFrom owns k image harts see ns from slots → (d : KeptNode) → IsSightOf owns k image harts see (get_or ns from d) x
first_sight owns k image harts see ns from slots rest x is sights d =
    subst (λ (i : ℕ). IsSightOf owns k image harts see (get_or ns i d) x) (let e : from + 0 ≡ from = omega arith in e) (sights 0 x d (ap (λ (zs : List (Option Sight)). get_or zs 0 None) is))

pub nothing_left : {X : Type 0} (l : List X) → length l ≡ 0 → l ≡ []
nothing_left [] h = refl
nothing_left (x ∷ xs) h = absurd (omega arith)
