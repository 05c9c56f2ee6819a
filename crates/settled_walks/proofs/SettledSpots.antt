-- Spots of a walk by what is known, and of a settled one: where more spots are there, and where each of them is as the walk asks.
use Rattle.std.proofs.Common.{◌≡◌, ◌≢◌, ℕ, ◌<◌, ◌≤◌, Bool, List, length, get_or, Contains, refl, sym, ap, ◌∙◌, subst, inl, inr}
use Rattle.pages.specs.Memory.{Memory}
use Rattle.all_endings.specs.RunStates.{Move}
use Rattle.all_endings.specs.Stopping.{StopsAreKnown}
use Rattle.all_endings.specs.StoreLists.{Stored}
use Rattle.hart_ends.proofs.Told.{told_by}
use Rattle.private_bytes.specs.PrivateWalks.{Spot}
use Rattle.list_suffixes.specs.Serving.{Node}
use Rattle.list_suffixes.specs.SettledWalks.{AreAhead, IsSettledWalk}
use Rattle.list_suffixes.specs.Staying.{MayBeLaid, spot_kept}
use Rattle.early_reads.specs.EarlyMaps.{EarlyMap, IsRight}
use Rattle.late_spots.specs.LateSpots.{IsSettledSpot, SettledSpotsAreLate, goes-known, has-new, owes-branched, owes-touched}
use Rattle.late_spots.specs.Onward.{IsOnward}
use Rattle.late_spots.specs.declared.going_on.Onward.{Onward}
use Rattle.late_spots.specs.declared.going_on.Onward.TheVariants.{Known, Lost, Behind, Open}
use Rattle.run_places.specs.declared.place.Place.{Place as KeptPlace}
use Rattle.run_places.specs.Spots.{spot_of, spots_of}
use Rattle.settled_walks.specs.KnownWalks.{AreKnown, IsFollowedBy, IsKnownAt, IsKnownWalk}
use Rattle.settled_walks.specs.SettledPlaces.{IsSettledAt}

-- ---- walks by what is known

pub followed_more : (owns : ℕ → ℕ → Bool) (h : ℕ) (m : List Stored) (p : Spot) (v : Move) (ps pt : List Spot) → ((q : Spot) → AreAhead ps q → AreAhead pt q) →
    IsFollowedBy owns h m p v ps → IsFollowedBy owns h m p v pt
followed_more owns h m p v ps pt on (inl a) = inl (on _ a)
followed_more owns h m p v ps pt on (inr lost) = inr lost

module _ (owns : ℕ → ℕ → Bool) (k : ℕ) (image : Memory) (harts h : ℕ) (m : List Stored) (opening : ℕ → ℕ) where
  pub known_more : (p : Spot) (ps pt : List Spot) → ((q : Spot) → AreAhead ps q → AreAhead pt q) → IsKnownAt owns k image harts h m opening ps p → IsKnownAt owns k image harts h m opening pt p
  known_more p ps pt on s = record { sized = s.sized; told = s.told; moves = λ v l makes known. followed_more owns h m p v ps pt on (s.moves v l makes known) }

  -- where each place is as the walk asks, each spot is
  pub all_known : (all : List KeptPlace) → ((j : ℕ) (d : KeptPlace) → j < length all → IsKnownAt owns k image harts h m opening (spots_of all) (spot_of (get_or all j d))) →
      AreKnown owns k image harts h m opening (spots_of all)
  all_known all each p there =
      let x = told_by spot_of all p there in
      subst (λ (q : Spot). IsKnownAt owns k image harts h m opening (spots_of all) q) (ap spot_of x.1.2 ∙ x.2) (each x.1.0 x.0 x.1.1)

  pub known_walk : (n : Node) (begin ps : List Spot) → n.stores ≡ m → n.memory ≡ opening → n.spots h ≡ begin → ((p : Spot) → Contains begin p → AreAhead ps p) →
      AreKnown owns k image harts h m opening ps → IsKnownWalk owns k image harts h n ps
  known_walk n begin ps stores memory at begins each = record {
    begins = λ p there. begins p (subst (λ (qs : List Spot). Contains qs p) at there);
    sized = λ p there. (one p there).sized;
    apart = λ p there. (one p there).told.apart;
    calls = λ p there. (one p there).told.calls;
    within = λ p there. (one p there).told.within;
    moves = λ p v there. (one p there).moves v;
  }
    where
      one : AreKnown owns k image harts h n.stores n.memory ps
      one p there =
          subst (λ (l : List Stored). IsKnownAt owns k image harts h l n.memory ps p) (sym stores)
          (subst (λ (g : ℕ → ℕ). IsKnownAt owns k image harts h m g ps p) (sym memory) (each p there))

-- ---- settled walks

module _ (f : EarlyMap) (owns : ℕ → ℕ → Bool) (image : Memory) (h : ℕ) (stays : List Bool) (m : List Stored) (p : Spot) where
  late_more : (new more : List Spot) → ((q : Spot) → AreAhead new q → AreAhead more q) → IsSettledSpot f owns image h stays m new p → IsSettledSpot f owns image h stays m more p
  late_more new more on (goes-known none) = goes-known none
  late_more new more on (owes-touched o touched) = owes-touched o touched
  late_more new more on (owes-branched o branched) = owes-branched o branched
  late_more new more on (has-new owes bytes ahead behind) = has-new owes bytes (on (spot_kept stays m p) ahead) behind

  -- what is told of runs that go on late, with a new spot where one is asked for
  pub late_by : (o : Onward) (new : List Spot) → o ≢ Open → (o ≡ Behind → AreAhead new (spot_kept stays m p)) → IsOnward o f owns image h stays m new p → IsSettledSpot f owns image h stays m new p
  late_by Known new told ahead is = is
  late_by Lost new told ahead is = is
  late_by Behind new told ahead is = is (ahead refl)
  late_by Open new told ahead is = absurd (told refl)

  -- where more is there, a spot is settled that was
  pub settled_more : (new more : List Spot) → ((q : Spot) → AreAhead new q → AreAhead more q) → IsSettledAt f owns image h stays m new p → IsSettledAt f owns image h stays m more p
  settled_more new more on s = record {
    late = late_more new more on s.late;
    ends = elim s.ends [ inl ahead ↦ inl (on (spot_kept stays m p) ahead) | inr goes_on ↦ inr goes_on ];
  }

-- where each place of a walk by what is known is settled, it is a settled walk
pub settled_walk : (f : EarlyMap) (owns : ℕ → ℕ → Bool) (k : ℕ) (image : Memory) (harts h : ℕ) (stays : List Bool) (n : Node) (m : List Stored) (all : List KeptPlace) (new : List Spot) →
    StopsAreKnown → SettledSpotsAreLate → IsRight f owns image h → n.stores ≡ m →
    ((j : ℕ) (d : KeptPlace) → j < length all → IsSettledAt f owns image h stays m new (spot_of (get_or all j d))) → IsKnownWalk owns k image harts h n (spots_of all) →
    length stays ≤ length n.stores → MayBeLaid stays n.stores → IsSettledWalk owns k image harts h stays n (spots_of all) new
settled_walk f owns k image harts h stays n m all new stops law right stores each walk within free = record {
  begins = walk.begins;
  sized = walk.sized;
  apart = walk.apart;
  calls = walk.calls;
  moves = walk.moves;
  late = λ p q e v vs there stands shared runs none unknown. law stops f owns image harts h stays n.stores e n.memory new p q v vs right within free (one p there).late stands runs none unknown;
  ends = λ p there. (one p there).ends;
}
  where
    one : (p : Spot) → Contains (spots_of all) p → IsSettledAt f owns image h stays n.stores new p
    one p there =
        let x = told_by spot_of all p there in
        subst (λ (l : List Stored). IsSettledAt f owns image h stays l new p) (sym stores)
        (subst (λ (q : Spot). IsSettledAt f owns image h stays m new q) (ap spot_of x.1.2 ∙ x.2) (each x.1.0 x.0 x.1.1))
