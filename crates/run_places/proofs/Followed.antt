-- Places that are followed.
use Rattle.std.proofs.Common.{◌≡◌, ℕ, ◌<◌, Bool, List, length, get_or, Contains, sym, ap, ◌∙◌, subst, inl, inr}
use Rattle.pages.specs.Memory.{Memory}
use Rattle.all_endings.specs.RunStates.{Move}
use Rattle.all_endings.specs.StoreLists.{Stored}
use Rattle.all_endings.specs.Walking.{HartEnding}
use Rattle.hart_ends.specs.Told.{ends_told}
use Rattle.hart_ends.proofs.Told.{told_by}
use Rattle.hart_states.specs.States.{listed}
use Rattle.private_bytes.specs.PrivateWalks.{IsCoveredApart, LeadsOn, Spot, spot_after, spot_with}
use Rattle.list_suffixes.specs.NodeWalks.{IsWalkedFrom}
use Rattle.list_suffixes.specs.Serving.{Node}
use Rattle.list_suffixes.specs.SettledWalks.{AreAhead}
use Rattle.run_places.specs.declared.place.Place.{Place as KeptPlace}
use Rattle.run_places.specs.declared.walking.Walk.{Walk}
use Rattle.run_places.specs.declared.walking.Walk.TheVariants.{Unknown, Whole}
use Rattle.run_places.specs.Following.{IsFollowed}
use Rattle.run_places.specs.Spots.{spot_of, spots_of}
use Rattle.run_places.specs.Walks.{IsWalkFrom, IsWalkOn}

-- where more is covered, a move leads on that did
pub leads_on : (owns : ℕ → ℕ → Bool) (h : ℕ) (m : List Stored) (ps pt : List Spot) (p : Spot) (v : Move) →
    ((q : Spot) → IsCoveredApart m ps q → IsCoveredApart m pt q) → LeadsOn owns h m ps p v → LeadsOn owns h m pt p v
leads_on owns h m ps pt p v covers (inl covered) = inl (covers (spot_after owns h m p v) covered)
leads_on owns h m ps pt p v covers (inr lost) = inr lost

module _ (owns : ℕ → ℕ → Bool) (k : ℕ) (image : Memory) (harts h : ℕ) (m : List Stored) (opening : ℕ → ℕ) where
  -- where more is offered, more ends are there and more is covered, a spot is followed that was
  pub followed_on : (p : Spot) (os ot : List Stored) (es et : List HartEnding) (ps pt : List Spot) →
      ((s : Stored) → Contains os s → Contains ot s) → ((e : HartEnding) → Contains es e → Contains et e) →
      ((q : Spot) → IsCoveredApart m ps q → IsCoveredApart m pt q) → IsFollowed owns k image harts h m opening p os es ps → IsFollowed owns k image harts h m opening p ot et pt
  followed_on p os ot es et ps pt offered ends covers f = record {
    apart = f.apart;
    moves = λ v l makes. leads_on owns h m ps pt p v covers (f.moves v l makes);
    offers = λ s none shared offer. elim (f.offers s none shared offer) [
      | inl here ↦ inl (offered s here)
      | inr there ↦ inr (λ v l makes public wet late. leads_on owns h m ps pt (spot_with p s) v covers (there v l makes public wet late))
    ];
    grows = λ s next pays. offered s (f.grows s next pays);
    calls = f.calls;
    endings = λ e at. ends e (f.endings e at);
  }

  -- where each place is followed, each spot is
  pub each_followed : (offered : List Stored) (ends : List HartEnding) (all : List KeptPlace) (ps : List Spot) →
      ((j : ℕ) (d : KeptPlace) → j < length all → IsFollowed owns k image harts h m opening (spot_of (get_or all j d)) offered ends ps) →
      (p : Spot) → Contains (spots_of all) p → IsFollowed owns k image harts h m opening p offered ends ps
  each_followed offered ends all ps each p there =
      let x = told_by spot_of all p there in
      subst (λ (q : Spot). IsFollowed owns k image harts h m opening q offered ends ps) (ap spot_of x.1.2 ∙ x.2) (each x.1.0 x.0 x.1.1)

-- where all spots are followed, and some of them stand for a node's, the hart is walked from these
module _ (owns : ℕ → ℕ → Bool) (k : ℕ) (image : Memory) (harts h : ℕ) (n : Node) (offered : List Stored) (ends : List HartEnding) (ps : List Spot)
    (begins : (p : Spot) → Contains (n.spots h) p → IsCoveredApart n.stores ps p)
    (each : (p : Spot) → Contains ps p → IsFollowed owns k image harts h n.stores n.memory p offered ends ps) where
  pub followed_from : IsWalkedFrom owns k image harts h n offered ends ps
  followed_from = record {
    begins = begins;
    apart = λ p there. (each p there).apart;
    moves = λ p v there l makes. (each p there).moves v l makes;
    offers = λ p s there none shared offer. (each p there).offers s none shared offer;
    grows = λ p s there next pays. (each p there).grows s next pays;
    calls = λ p there call. (each p there).calls call;
    endings = λ p e there at. (each p there).endings e at;
  }

-- a walk on from places that stand for a node's spots is one from these
pub from_on : (owns : ℕ → ℕ → Bool) (k : ℕ) (image : Memory) (harts h : ℕ) (n : Node) (m : List Stored) (opening : ℕ → ℕ) (spots begun : List Spot) (w : Walk) →
    n.stores ≡ m → n.memory ≡ opening → n.spots h ≡ spots → ((p : Spot) → Contains spots p → AreAhead begun p) →
    IsWalkOn owns k image harts h m opening begun w → IsWalkFrom owns k image harts h n w
from_on owns k image harts h n m opening spots begun (Unknown why) stores memory at ahead on = on
from_on owns k image harts h n m opening spots begun (Whole w) stores memory at ahead on = (
  on.0,
  followed_from owns k image harts h n (listed w.offered.items) (ends_told w.ends.items) on.0
      (λ p there. let a = ahead p (subst (λ (qs : List Spot). Contains qs p) at there) in (a.0, on.1 a.0 a.1, a.2 n.stores))
      (λ p there.
      subst (λ (l : List Stored). IsFollowed owns k image harts h l n.memory p (listed w.offered.items) (ends_told w.ends.items) on.0) (sym stores)
      (subst (λ (f : ℕ → ℕ). IsFollowed owns k image harts h m f p (listed w.offered.items) (ends_told w.ends.items) on.0) (sym memory) (on.2 p there))),
)
