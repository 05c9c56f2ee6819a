-- What trials with a fence of a kind come to.
use Rattle.std.proofs.Common.{◌≡◌, ℕ, zero, suc, ◌+◌, ◌↔◌, IsTrue, inl, Bool, true, false, not, List, [], ◌∷◌, ◌++◌, refl, ◌∙◌, ap, subst}
use Rattle.std.specs.Bool.{OnFalse, OnTrue}
use Rattle.plan_hunt.specs.Endings.{Ended}
use Rattle.plan_hunt.specs.declared.extent.Extent.{Extent}
use Rattle.plan_hunt.specs.declared.extent.Until.TheVariants.{Bad}
use Rattle.fence_kinds.specs.Kinds.{FailsAmong, FailsStill, IsFenced, Mends, NoneFails, assumed_fence}
use Rattle.fence_kinds.specs.declared.mending.Place.{Place}
use Rattle.fence_search.specs.Counting.{AreCounted, AreGoneThrough, GoesOn, Stands, tried_by}
use Rattle.fence_search.specs.Places.{pc_of}
use Rattle.fence_search.specs.Searching.{AreSearchedBy}
use Rattle.fence_search.specs.declared.counting.Counted.{Counted}
use Rattle.fence_search.specs.declared.trials.Trials.{Trials}
use Rattle.fence_trials.specs.Trials.{FailsAt}
use Rattle.fence_table.specs.declared.fence_kind.FenceKind.{FenceKind}
use Rattle.fence_trials.specs.declared.departing.Departing.{Departing}
use Rattle.fence_trials.specs.declared.guest.FenceGuest.{FenceGuest}
use Rattle.fence_trials.specs.declared.spot.Spot.{Spot}
use Rattle.fence_trials.specs.declared.trying.Trial.{Trial}
use Rattle.timed_machine.specs.declared.assumed.AssumedFence.{AssumedFence}

-- ---- the numbers

-- whether a number fails at the spot
abbrev pub Tells : Spot → Trial → Bool → Type 0
Tells spot t b = IsTrue b ↔ FailsAt spot t

not_true : false ≡ true → ⊥
not_true e = cc

pub counted_by : (P Q : ℕ → Trial → Type 0) (first n : ℕ) (c : Counted) → ((i : ℕ) (t : Trial) → P i t → Q i t) → AreCounted P first n c → AreCounted Q first n c
counted_by P Q first zero c h a = a
counted_by P Q first (suc n) c h (b, t, a, p, is) = (b, t, counted_by P Q first n b h a, h (first + n) t p, is)

-- where trials that look for a number that fails at the spot are through, none does
pub none_fails : (spot : Spot) (tried : ℕ → Trial → Type 0) (x : Extent) (c : Counted) → x.until ≡ Bad → AreGoneThrough tried (Tells spot) x x.most c →
    AreCounted (λ i t. tried i t × (FailsAt spot t → ⊥)) x.first x.most c
none_fails spot tried x c bad gone =
    counted_by (λ i t. tried i t × GoesOn (Tells spot) x.until t) (λ i t. tried i t × (FailsAt spot t → ⊥)) x.first x.most c (λ i t p. (p.0, λ f. not_true ((subst (λ u. GoesOn (Tells spot) u t) bad p.1).1 f))) gone

-- ---- trials of all numbers of a place

abbrev pub extent_of : Place → Extent
extent_of p = record { first = p.first; most = p.count; until = Bad; is_timed = false }

abbrev pub AreTried : (Departing → ℕ → Ended → Type 0) → Place → Trials → Type 0
AreTried comes_to p t = AreSearchedBy comes_to (Tells p.weakness.now.spot) p.runs.now (extent_of p) t

none_among : (comes_to : Departing → ℕ → Ended → Type 0) (p : Place) (t : Trials) → AreTried comes_to p t → t.is_over ≡ false → NoneFails comes_to p
none_among comes_to p t h e =
    let gone = subst (λ b. Stands b (tried_by comes_to p.runs.now) (Tells p.weakness.now.spot) (extent_of p) t.done t.counted) e h.so_far.stands in
    let all = subst (λ n. AreGoneThrough (tried_by comes_to p.runs.now) (Tells p.weakness.now.spot) (extent_of p) n t.counted) (h.whole e) gone in
    (t.counted, none_fails p.weakness.now.spot (tried_by comes_to p.runs.now) (extent_of p) t.counted refl all)

pub none_unless : (comes_to : Departing → ℕ → Ended → Type 0) (p : Place) (t : Trials) → AreTried comes_to p t → OnFalse t.is_over (NoneFails comes_to p)
none_unless comes_to p t h = by_case t.is_over (none_among comes_to p t h)
  where
    by_case : (b : Bool) → (b ≡ false → NoneFails comes_to p) → OnFalse b (NoneFails comes_to p)
    by_case true k = tt
    by_case false k = k refl

-- ---- an execution that was found

-- ---- with a fence of a kind

pub fenced_so : (p : Place) (k : FenceKind) (g : FenceGuest) (pc : ℕ) (slice items : List AssumedFence) → g.opening ≡ p.guest.now.opening → g.seed ≡ p.guest.now.seed → g.reach ≡ p.guest.now.reach →
    g.ranges.now ≡ p.guest.now.ranges.now → g.fences.now ≡ slice → slice ≡ items → items ≡ p.guest.now.fences.now ++ assumed_fence pc k ∷ [] → pc ≡ pc_of p.weakness.now → IsFenced p k g
fenced_so p k g pc slice items opening seed reach ranges fences same all at = record {
  opening = opening;
  seed = seed;
  reach = reach;
  ranges = ranges;
  fences = fences ∙ same ∙ all ∙ ap (λ (x : ℕ). p.guest.now.fences.now ++ assumed_fence x k ∷ []) at;
}

pub mends_so : (b : Bool) (comes_to : FenceGuest → Departing → ℕ → Ended → Type 0) (p : Place) (k : FenceKind) (g : FenceGuest) → IsFenced p k g → OnFalse b (NoneFails (comes_to g) p) → OnTrue (not b) (Mends comes_to p k)
mends_so true comes_to p k g fenced none = tt
mends_so false comes_to p k g fenced none = record { guest = g; fenced = fenced; none = none }

pub fails_so : (b : Bool) (comes_to : FenceGuest → Departing → ℕ → Ended → Type 0) (p : Place) (k : FenceKind) (g : FenceGuest) → IsFenced p k g → OnTrue b (FailsAmong (comes_to g) p) → OnFalse (not b) (FailsStill comes_to p k)
fails_so true comes_to p k g fenced fails = record { guest = g; fenced = fenced; fails = inl fails }
fails_so false comes_to p k g fenced fails = tt
