-- What came of the numbers of a search. `tried i t` says that of the execution of number i came t, and `answers t over` whether a search that
-- ends with a find is over with that.
use Rattle.std.specs.Prelude.{◌≡◌, ◌⊎◌, ⊤, ℕ, zero, suc, ◌+◌, ◌≤◌, Bool, true, false}
use Rattle.fence_search.specs.declared.counting.Counted.{Counted}
use Rattle.fence_table.specs.Counting.{with_number}
use Rattle.fence_table.specs.declared.tally.Tally.{Tally}
use Rattle.fence_trials.specs.Trials.{IsTrialOf}
use Rattle.fence_trials.specs.declared.departing.Departing.{Departing}
use Rattle.fence_trials.specs.declared.ordinary.Ordinary.{Ordinary}
use Rattle.fence_trials.specs.declared.trying.Trial.{Trial}
use Rattle.fence_trials.specs.declared.trying.Trial.TheVariants.{Well, Ordinary as Anyway, Running, Unnamed, Fails, Unconfirmed}
use Rattle.plan_hunt.specs.Endings.{Ended}
use Rattle.plan_hunt.specs.declared.extent.Extent.{Extent}
use Rattle.plan_hunt.specs.declared.extent.Until.{Until}
use Rattle.plan_hunt.specs.declared.extent.Until.TheVariants.{Bad, Differ, Done}

-- what comes of a number's execution. `comes_to departing i e` says that the execution of number i that departs so comes to e
abbrev pub tried_by : (Departing → ℕ → Ended → Type 0) → Ordinary → ℕ → Trial → Type 0
tried_by comes_to o i t = IsTrialOf (λ d. comes_to d i) o i t

-- ---- counting

abbrev pub counted : ℕ → Tally → Tally → Tally → ℕ → Tally → Counted
counted well ordinary unnamed running failing unconfirmed =
    record { well = well; ordinary = ordinary; unnamed = unnamed; running = running; failing = failing; unconfirmed = unconfirmed }

abbrev pub no_number : Tally
no_number = record { plans = 0; first = 0 }

abbrev pub none_counted : Counted
none_counted = counted 0 no_number no_number no_number 0 no_number

-- how many numbers there are in all
abbrev pub count_all : Counted → ℕ
count_all c = c.well + c.ordinary.plans + c.unnamed.plans + c.running.plans + c.failing + c.unconfirmed.plans

-- one more number, of which this came
abbrev pub with_trial : Trial → ℕ → Counted → Counted
with_trial Well n c = counted (c.well + 1) c.ordinary c.unnamed c.running c.failing c.unconfirmed
with_trial Anyway n c = counted c.well (with_number n c.ordinary) c.unnamed c.running c.failing c.unconfirmed
with_trial Unnamed n c = counted c.well c.ordinary (with_number n c.unnamed) c.running c.failing c.unconfirmed
with_trial Running n c = counted c.well c.ordinary c.unnamed (with_number n c.running) c.failing c.unconfirmed
with_trial (Fails found) n c = counted c.well c.ordinary c.unnamed c.running (c.failing + 1) c.unconfirmed
with_trial Unconfirmed n c = counted c.well c.ordinary c.unnamed c.running c.failing (with_number n c.unconfirmed)

-- so many numbers from a first one on, each with what came of its execution, one after the other
abbrev pub AreCounted : (ℕ → Trial → Type 0) → ℕ → ℕ → Counted → Type 0
AreCounted tried first zero c = c ≡ none_counted
AreCounted tried first (suc n) c =
    (before : Counted) × (t : Trial) × AreCounted tried first n before × tried (first + n) t × (c ≡ with_trial t (first + n) before)

-- ---- with which number a search is over

-- whether it goes on after a number of which this came
abbrev pub GoesOn : (Trial → Bool → Type 0) → Until → Trial → Type 0
GoesOn answers Done t = ⊤
GoesOn answers Bad t = answers t false
GoesOn answers Differ t = answers t false

-- what is answered of the last number
abbrev pub IsAnswer : (Trial → Bool → Type 0) → Until → Trial → Bool → Type 0
IsAnswer answers until t true = answers t true
IsAnswer answers until t false = GoesOn answers until t

-- it goes on after so many numbers
abbrev pub AreGoneThrough : (ℕ → Trial → Type 0) → (Trial → Bool → Type 0) → Extent → ℕ → Counted → Type 0
AreGoneThrough tried answers x n c = AreCounted (λ i t. tried i t × GoesOn answers x.until t) x.first n c

-- the last number is the one that is looked for, and none before it is
pub record EndsWithFind (tried : ℕ → Trial → Type 0) (answers : Trial → Bool → Type 0) (x : Extent) (n : ℕ) (c : Counted) : Type 0 where
  pub before : ℕ
  pub count : n ≡ before + 1
  pub was : Counted
  pub gone : AreGoneThrough tried answers x before was
  pub last : Trial
  pub made : tried (x.first + before) last
  pub found : answers last true
  pub now : c ≡ with_trial last (x.first + before) was

-- there is no more time, and one number is done or more
pub record EndsInTime (tried : ℕ → Trial → Type 0) (answers : Trial → Bool → Type 0) (x : Extent) (n : ℕ) (c : Counted) : Type 0 where
  pub timed : x.is_timed ≡ true
  pub some : 1 ≤ n
  pub gone : AreGoneThrough tried answers x n c

-- how a search stands after n numbers: it is over before its last number, or goes on
abbrev pub Stands : Bool → (ℕ → Trial → Type 0) → (Trial → Bool → Type 0) → Extent → ℕ → Counted → Type 0
Stands true tried answers x n c = EndsWithFind tried answers x n c ⊎ EndsInTime tried answers x n c
Stands false tried answers x n c = AreGoneThrough tried answers x n c

-- ---- the end

-- these are the numbers of a search that is over: all of them, those up to the one that is looked for, or those for which there was time
pub record AreSearched (tried : ℕ → Trial → Type 0) (answers : Trial → Bool → Type 0) (x : Extent) (n : ℕ) (c : Counted) : Type 0 where
  pub few : n ≤ x.most
  pub over : EndsWithFind tried answers x n c ⊎ (EndsInTime tried answers x n c ⊎ ((n ≡ x.most) × AreGoneThrough tried answers x n c))
