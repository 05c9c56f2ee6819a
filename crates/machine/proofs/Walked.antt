-- A walk over a run, round by round and part by part.
use Rattle.std.proofs.Common.{◌≡◌, ℕ, ◌+◌, ◌-◌, ◌<◌, ◌≤◌, ◌∙◌, Bool, List, ◌++◌, sym, ap, subst, arith, inl, inr}
use Rattle.std.specs.Prelude.{◌⊎◌, Result, Ok, Err, IfOk, OnOk, OnErr}
use Rattle.round_schedule.specs.declared.event.Event.{Event}
use Rattle.hart_rounds.specs.Starts.{Start}
use Rattle.machine.specs.RoundStarts.{next_start_of, start_at, untraced_rounds}
use Rattle.machine.specs.Machine.{Running, after_rounds}
use Rattle.machine.specs.Untraced.{HasRun, IsUntraced, MayGoOn, Untraced, next_events, untraced_round}
use Rattle.machine.specs.Walks.{HasDone, HasLearned, HasSeenAll, HasStopped, IsCutOff, IsUpToDate, MayWalk}
use Rattle.machine.proofs.NumberedStarts.{one_more, starts_there}
use Rattle.machine.proofs.Repeated.{more_rounds, no_rounds}
use Rattle.machine.proofs.UntracedRounds.{may_next, passed_by, rounds_pass}

-- ---- which rounds are done

pub none_done : (u : Untraced) → HasDone 0 u u
none_done u = record { rounds = omega arith; run = λ m i. subst (λ (r : Running). IsUntraced r u) (no_rounds m) i }

pub more_done : (j k : ℕ) (u v w : Untraced) → HasDone j u v → HasDone k v w → HasDone (j + k) u w
more_done j k u v w x y = record {
  rounds = omega (arith, x.rounds, y.rounds);
  run = λ m i. subst (λ (r : Running). IsUntraced r w) (more_rounds j k m) (y.run (after_rounds j m) (x.run m i));
}

-- rounds that are done and kept are done
pub has_done : (k : ℕ) (u v : Untraced) (a b : List Event → Type 0) → HasRun k u v a b → HasDone k u v
has_done k u v a b x = record { rounds = x.rounds; run = x.run }

-- rounds in which no hart runs are done at once
pub stopped_run : (k : ℕ) (u v : Untraced) (keeps : List Event → Type 0) → HasStopped u → v ≡ record u { rounds = u.rounds + k } → HasRun k u v keeps keeps
stopped_run k u v keeps stopped is =
    passed_by k u v keeps (ap (λ (w : Untraced). w.rounds) is)
    (λ m i. subst (λ (w : Untraced). IsUntraced (after_rounds k m) w × ((after_rounds k m).state.trace ≡ m.state.trace)) (sym is) (rounds_pass k u m stopped i))

-- ---- what the rounds ask

pub may_walk_round : (may_keep keeps : List Event → Type 0) (k n : ℕ) (u : Untraced) → k < n → MayWalk may_keep keeps (n - k) u →
    ((es : List Event) × keeps es × may_keep (es ++ next_events u)) ⊎ HasStopped u
may_walk_round may_keep keeps k n u low (inl x) = inl (x.0, x.1, (may_next may_keep k n x.0 u low x.2).0)
may_walk_round may_keep keeps k n u low (inr s) = inr s

-- what one round leaves: the next machine, with its events kept, or one whose harts have all stopped
abbrev pub HasNext : (List Event → Type 0) → (List Event → Type 0) → Untraced → Untraced → Type 0
HasNext keeps after u v = ((v ≡ untraced_round u) × ((es : List Event) → keeps es → after (es ++ next_events u))) ⊎ HasStopped v

pub may_walk_on : (may_keep keeps after : List Event → Type 0) (k n : ℕ) (u v : Untraced) → k < n → MayWalk may_keep keeps (n - k) u → (HasStopped u → HasStopped v) →
    HasNext keeps after u v → MayWalk may_keep after (n - (k + 1)) v
may_walk_on may_keep keeps after k n u v low (inl x) still (inl y) =
    inl (x.0 ++ next_events u, y.1 x.0 x.1, subst (λ (w : Untraced). MayGoOn may_keep (n - (k + 1)) (x.0 ++ next_events u) w) (sym y.0) (may_next may_keep k n x.0 u low x.2).1)
may_walk_on may_keep keeps after k n u v low (inl x) still (inr y) = inr y
may_walk_on may_keep keeps after k n u v low (inr s) still y = inr (still s)

-- the machine after k rounds, or one whose harts have all stopped
abbrev pub IsAlong : ℕ → Untraced → Untraced → Type 0
IsAlong k u v = (v ≡ untraced_rounds k u) ⊎ HasStopped v

pub along_next : (keeps after : List Event → Type 0) (k : ℕ) (u v w : Untraced) → IsAlong k u v → (HasStopped v → HasStopped w) → HasNext keeps after v w → IsAlong (k + 1) u w
along_next keeps after k u v w (inl x) still (inl y) = inl (y.0 ∙ ap untraced_round x ∙ one_more k u)
along_next keeps after k u v w (inl x) still (inr y) = inr y
along_next keeps after k u v w (inr s) still y = inr (still s)

pub starts_along : (logs : Bool) (starts : ℕ → Start) (k : ℕ) (u v : Untraced) → ((n : ℕ) → starts n ≡ start_at logs u n) → v.rounds ≡ u.rounds + k → IsAlong k u v →
    (starts v.rounds ≡ next_start_of logs v) ⊎ HasStopped v
starts_along logs starts k u v f at (inl x) = inl (starts_there logs starts k u v f x at)
starts_along logs starts k u v f at (inr s) = inr s

-- ---- what a visitor knows

module _ {V : Type 0} (knows : V → V → Untraced → ℕ → ℕ → Type 0) where
  pub none_learned : (n : ℕ) (u : Untraced) (v : V) → HasLearned knows n 0 u v v
  none_learned n u v = λ first start before d h. subst (λ (k : ℕ). knows first v start (before + n) k) (omega arith) h

  -- it is shown the round after k of n
  pub is_shown : (n k : ℕ) (u w : Untraced) (a b : V) → k < n → IsUpToDate knows n u a → HasLearned knows n k u a b → HasDone (k + 1) u w →
      (first : V) × (start : Untraced) × (rounds : ℕ) × (done : ℕ) × (done < rounds) × knows first b start rounds done × HasDone (done + 1) start w
  is_shown n k u w a b low up x d =
      let all : up.2 + (k + 1) ≡ up.2 + k + 1 = omega arith in (
        up.0,
        up.1,
        up.2 + n,
        up.2 + k,
        omega (arith, low),
        x up.0 up.1 up.2 up.3 up.4,
        subst (λ (j : ℕ). HasDone j up.1 w) all (more_done up.2 (k + 1) up.1 u w up.3 d),
      )

  pub learned_next : (n k : ℕ) (u w : Untraced) (a b c : V) → k < n → HasLearned knows n k u a b → HasDone (k + 1) u w →
      ((first : V) (start : Untraced) (rounds done : ℕ) → done < rounds → knows first b start rounds done → HasDone (done + 1) start w → knows first c start rounds (done + 1)) →
      HasLearned knows n (k + 1) u a c
  learned_next n k u w a b c low x d law = λ first start before e h.
      let all : before + (k + 1) ≡ before + k + 1 = omega arith in
      let there : HasDone (before + k + 1) start w = subst (λ (j : ℕ). HasDone j start w) all (more_done before (k + 1) start u w e d) in
      subst (λ (j : ℕ). knows first c start (before + n) j) (sym all) (law first start (before + n) (before + k) (omega (arith, low)) (x first start before e h) there)

  -- it goes on from where a part of the walk ended
  pub up_to_date : (n k : ℕ) (u w : Untraced) (a b : V) → k ≤ n → IsUpToDate knows n u a → HasLearned knows n k u a b → HasDone k u w → IsUpToDate knows (n - k) w b
  up_to_date n k u w a b few up x d =
      let all : up.2 + n ≡ up.2 + k + (n - k) = omega (arith, few) in
      (up.0, up.1, up.2 + k, more_done up.2 k up.1 u w up.3 d, subst (λ (j : ℕ). knows up.0 b up.1 j (up.2 + k)) all (x up.0 up.1 up.2 up.3 up.4))

  pub learned_more : (n k j : ℕ) (u w : Untraced) (a b c : V) → k ≤ n → HasLearned knows n k u a b → HasDone k u w → HasLearned knows (n - k) j w b c → HasLearned knows n (k + j) u a c
  learned_more n k j u w a b c few x d y = λ first start before e h.
      let all : before + n ≡ before + k + (n - k) = omega (arith, few) in
      let some : before + k + j ≡ before + (k + j) = omega arith in
      subst (λ (i : ℕ). knows first c start (before + n) i) some
      (subst (λ (i : ℕ). knows first c start i (before + k + j)) (sym all)
      (y first start (before + k) (more_done before k start u w e d) (subst (λ (i : ℕ). knows first b start i (before + k)) all (x first start before e h))))

  -- a whole walk
  pub from_first : (n : ℕ) (u : Untraced) (v : V) → knows v v u n 0 → IsUpToDate knows n u v
  from_first n u v h = let all : n ≡ 0 + n = omega arith in (v, u, 0, none_done u, subst (λ (j : ℕ). knows v v u j 0) all h)

  pub learned_all : (n k : ℕ) (u : Untraced) (a b : V) → knows a a u n 0 → HasLearned knows n k u a b → knows a b u n k
  learned_all n k u a b h x =
      let all : n ≡ 0 + n = omega arith in
      let some : 0 + k ≡ k = omega arith in
      subst (λ (j : ℕ). knows a b u n j) some
      (subst (λ (j : ℕ). knows a b u j (0 + k)) (sym all) (x a u 0 (none_done u) (subst (λ (j : ℕ). knows a a u j 0) all h)))

  -- the same visitor by another name
  pub seen_by : (n : ℕ) (u : Untraced) (first a b : V) → HasSeenAll knows first a u n → a ≡ b → HasSeenAll knows first b u n
  seen_by n u first a b h same = subst (λ (v : V). HasSeenAll knows first v u n) same h

-- ---- how a walk ended

pub cut_off_later : (may_fail : Type 0) (k n j : ℕ) → k ≤ n → IsCutOff may_fail (n - k) j → IsCutOff may_fail n (k + j)
cut_off_later may_fail k n j few (inl lt) = inl (omega (arith, lt, few))
cut_off_later may_fail k n j few (inr x) = inr (omega (arith, x.0, few), x.1)

pub fewer : (n k : ℕ) → IsCutOff ⊥ n k → k < n
fewer n k (inl lt) = lt
fewer n k (inr x) = absurd x.1

-- cut off or not, some rounds are done
pub some_walked : {E : Type 0} (r : Result ℕ E) (C P : ℕ → Type 0) → IfOk r P → OnErr r ((k : ℕ) × C k × P k) → (k : ℕ) × P k
some_walked (Ok k) C P p q = (k, p)
some_walked (Err e) C P p q = (q.0, q.2)

pub some_run : {A E : Type 0} (r : Result A E) (n : ℕ) (C P : ℕ → Type 0) → OnOk r (P n) → OnErr r ((k : ℕ) × C k × P k) → (k : ℕ) × P k
some_run (Ok a) n C P p q = (n, p)
some_run (Err e) n C P p q = (q.0, q.2)
