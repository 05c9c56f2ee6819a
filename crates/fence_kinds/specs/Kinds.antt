-- Which kind of fence is told. `comes_to guest departing i e` says that the execution of number i of a guest that departs so comes to e.
use Rattle.std.specs.Prelude.{◌≡◌, ◌⊎◌, ℕ, ◌+◌, ◌<◌, ◌≤◌, ◌==◌, if◌then◌else◌, true, false, [], ◌∷◌, ◌++◌}
use Rattle.plan_hunt.specs.Endings.{Ended}
use Rattle.fence_table.specs.declared.fence_kind.FenceKind.{FenceKind}
use Rattle.fence_table.specs.declared.fence_kind.Side.{Side}
use Rattle.fence_table.specs.declared.fence_kind.Side.TheVariants.{Loads, Stores, Both}
use Rattle.fence_search.specs.Counting.{AreCounted, tried_by}
use Rattle.fence_search.specs.declared.counting.Counted.{Counted}
use Rattle.fence_search.specs.Places.{pc_of}
use Rattle.fence_trials.specs.Trials.{FailsAt, FailsSo}
use Rattle.fence_trials.specs.declared.departing.Departing.{Departing}
use Rattle.fence_trials.specs.declared.guest.FenceGuest.{FenceGuest}
use Rattle.fence_trials.specs.declared.ordinary.Ordinary.{Ordinary}
use Rattle.fence_trials.specs.declared.trying.Trial.{Trial}
use Rattle.fence_kinds.specs.declared.mending.Place.{Place}
use Rattle.rv64_decode.specs.declared.FenceSet.{FenceSet}
use Rattle.timed_machine.specs.declared.assumed.AssumedFence.{AssumedFence}

-- ---- the kinds

abbrev pub fence_kind : Side → Side → FenceKind
fence_kind before after = record { before = before; after = after }

-- in the order in which they are tried: a weaker one always before a stronger one
abbrev pub kind_at : ℕ → FenceKind
kind_at n =
    if n == 0 then fence_kind Loads Loads
    else (if n == 1 then fence_kind Loads Stores
    else (if n == 2 then fence_kind Stores Loads
    else (if n == 3 then fence_kind Stores Stores
    else (if n == 4 then fence_kind Loads Both
    else (if n == 5 then fence_kind Both Stores
    else (if n == 6 then fence_kind Stores Both
    else (if n == 7 then fence_kind Both Loads
    else fence_kind Both Both)))))))

abbrev pub set_of : Side → FenceSet
set_of Loads = record { reads = true; writes = false }
set_of Stores = record { reads = false; writes = true }
set_of Both = record { reads = true; writes = true }

abbrev pub assumed_fence : ℕ → FenceKind → AssumedFence
assumed_fence pc k = record { pc = pc; before = set_of k.before; after = set_of k.after }

-- a guest with a fence of this kind at the place
pub record IsFenced (p : Place) (k : FenceKind) (g : FenceGuest) : Type 0 where
  pub opening : g.opening ≡ p.guest.now.opening
  pub seed : g.seed ≡ p.guest.now.seed
  pub reach : g.reach ≡ p.guest.now.reach
  pub ranges : g.ranges.now ≡ p.guest.now.ranges.now
  pub fences : g.fences.now ≡ p.guest.now.fences.now ++ assumed_fence (pc_of p.weakness.now) k ∷ []

-- ---- what was tried

-- each of the numbers was executed, and doesn't fail at the place
abbrev pub NoneFails : (Departing → ℕ → Ended → Type 0) → Place → Type 0
NoneFails comes_to p =
    (c : Counted) × AreCounted (λ i t. tried_by comes_to p.runs.now i t × (FailsAt p.weakness.now.spot t → ⊥)) p.first p.count c

-- one of them does
pub record FailsAmong (comes_to : Departing → ℕ → Ended → Type 0) (p : Place) : Type 0 where
  pub number : ℕ
  pub from : p.first ≤ number
  pub below : number < p.first + p.count
  pub trial : Trial
  pub tried : tried_by comes_to p.runs.now number trial
  pub fails : FailsAt p.weakness.now.spot trial

-- an execution by the departures that were found fails
abbrev pub DoesFail : (Departing → ℕ → Ended → Type 0) → Ordinary → Type 0
DoesFail comes_to o = (n : ℕ) × FailsSo comes_to o n

-- with a fence of this kind none of the numbers fails at the place
pub record Mends (comes_to : FenceGuest → Departing → ℕ → Ended → Type 0) (p : Place) (k : FenceKind) : Type 0 where
  pub guest : FenceGuest
  pub fenced : IsFenced p k guest
  pub none : NoneFails (comes_to guest) p

-- with it one of them does, or one of the executions that were found
pub record FailsStill (comes_to : FenceGuest → Departing → ℕ → Ended → Type 0) (p : Place) (k : FenceKind) : Type 0 where
  pub guest : FenceGuest
  pub fenced : IsFenced p k guest
  pub fails : FailsAmong (comes_to guest) p ⊎ DoesFail (comes_to guest) p.runs.now

-- it mends the guest at the place, and no kind before it does
pub record IsWeakest (comes_to : FenceGuest → Departing → ℕ → Ended → Type 0) (p : Place) (k : FenceKind) : Type 0 where
  pub index : ℕ
  pub is : k ≡ kind_at index
  pub weaker : (j : ℕ) → j < index → FailsStill comes_to p (kind_at j)
  pub mends : Mends comes_to p k
