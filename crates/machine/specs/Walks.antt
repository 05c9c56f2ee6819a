-- What is known of a run after each of its rounds.
use Rattle.std.specs.Prelude.{◌≡◌, ℕ, ◌+◌, ◌<◌, ◌≤◌, ◌⊎◌, true, All, List, length, Option, Some, Result, MatchResult}
use Rattle.round_schedule.specs.declared.event.Event.{Event}
use Rattle.run_book.specs.Known.{Bound, Known}
use Rattle.parallel_phase.specs.declared.claimed_round.HartRound.{HartRound}
use Rattle.parallel_phase.specs.declared.run_starts.RunStarts.{Ghosts}
use Rattle.parallel_phase.specs.Rounds.{HasGatheredRounds, IsCaller, IsWorker}
use Rattle.machine.specs.Machine.{count_stopped}
use Rattle.machine.specs.Untraced.{HasRun, IsAfter, MayGoOn, Untraced}
use Rattle.machine.specs.declared.walks.Seats.{Seats}
use Rattle.machine.specs.declared.walks.Walked.{Walked}

-- so many rounds of a run that began so have led there
pub record HasDone (k : ℕ) (start now : Untraced) : Type 0 where
  pub rounds : now.rounds ≡ start.rounds + k
  pub run : IsAfter k start now

-- no hart runs
abbrev pub HasStopped : Untraced → Type 0
HasStopped u = count_stopped u.harts ≡ length u.harts

-- no hart runs any more after k rounds from there
abbrev pub StopsWithin : ℕ → Untraced → Type 0
StopsWithin k start = (u : Untraced) × HasDone k start u × HasStopped u

-- a visitor that is told of the first so many of n rounds, of all of them or of those after which no hart runs, knows those
pub record HasSeenAll {V : Type 0} (knows : V → V → Untraced → ℕ → ℕ → Type 0) (first now : V) (start : Untraced) (n : ℕ) : Type 0 where
  pub shown : ℕ
  pub most : shown ≤ n
  pub known : knows first now start n shown
  pub all : (shown ≡ n) ⊎ StopsWithin shown start

-- where a walk of n rounds was refused, k are done: fewer than n, but where it was the visitor that failed
abbrev pub IsCutOff : Type 0 → ℕ → ℕ → Type 0
IsCutOff may_fail n k = (k < n) ⊎ ((k ≤ n) × may_fail)

-- ---- a part of a walk

-- the events of the next n rounds may be kept after those that are kept, or no hart runs
abbrev pub MayWalk : (List Event → Type 0) → (List Event → Type 0) → ℕ → Untraced → Type 0
MayWalk may_keep keeps n u = ((es : List Event) × keeps es × MayGoOn may_keep n es u) ⊎ HasStopped u

-- its rounds are done, n at most, or some where it was refused, and who kept the events before has kept those of the rounds too
abbrev pub HasWalked : {E : Type 0} → Result Walked E → Type 0 → ℕ → Untraced → Untraced → (List Event → Type 0) → (List Event → Type 0) → Type 0
HasWalked r may_fail n u v before after =
    MatchResult r (λ w. (w.rounds ≤ n) × HasRun w.rounds u v before after) (λ _. (k : ℕ) × IsCutOff may_fail n k × HasRun k u v before after)

-- so many of the rounds between these machines were shared: the seat of the calling thread has seen the history of each of these, which stood
-- under the lock of the run's book and is whole, behind what it had seen, and nothing else
pub record HasShared {b : _} {g : Ghosts b} (shared harts : ℕ) (u v : Untraced) (k l : Known (HartRound b g)) : Type 0 where
  pub rounds : List ℕ
  pub count : length rounds ≡ shared
  pub within : All (λ (n : ℕ). (u.rounds ≤ n) × (n < v.rounds)) rounds
  pub gathered : HasGatheredRounds rounds harts k l

-- the seats of a book: that of the calling thread, before the first round, and those of the other workers
pub record AreSeats {b : _} {g : Ghosts b} (book : Bound) (seats : Seats b g) : Type 0 where
  pub own : IsCaller book.table book.harts seats.own
  pub first : seats.own.round ≡ 0
  pub others : All (IsWorker book.table book.harts) seats.others.items

-- they are there
abbrev pub HasSeats : {b : _} {g : Ghosts b} → Bound → Option (Seats b g) → Type 0
HasSeats {b} {g} book seats = (s : Seats b g) × (seats ≡ Some s) × AreSeats book s

-- it ended after all its n rounds, or as the visitor has enough, or before a round that is worth more workers, where there may be several
abbrev pub HasEnded : Walked → ℕ → ℕ → Type 0 → Type 0
HasEnded w n most_workers enough = (w.rounds ≡ n) ⊎ enough ⊎ ((w.wants_workers ≡ true) × (1 < most_workers))

-- ---- what a visitor knows: it is told of the visitor as it began, of it now, of the machine that the walk began with, of how many rounds the walk is
-- to have, and of how many are done

-- it knows the rounds before this machine, of a walk that is to have n more
abbrev pub IsUpToDate : {V : Type 0} → (V → V → Untraced → ℕ → ℕ → Type 0) → ℕ → Untraced → V → Type 0
IsUpToDate {V} knows n now v = (first : V) × (start : Untraced) × (before : ℕ) × HasDone before start now × knows first v start (before + n) before

-- whatever it knew of the rounds before the one machine, it knows k of n more now
abbrev pub HasLearned : {V : Type 0} → (V → V → Untraced → ℕ → ℕ → Type 0) → ℕ → ℕ → Untraced → V → V → Type 0
HasLearned {V} knows n k u old new =
    (first : V) (start : Untraced) (before : ℕ) → HasDone before start u → knows first old start (before + n) before → knows first new start (before + n) (before + k)
