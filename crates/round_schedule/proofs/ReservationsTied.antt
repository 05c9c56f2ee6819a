-- What a commit and an access do to a list is what the trace says.
use Rattle.std.proofs.Common.{◌≡◌, ℕ, zero, suc, ◌+◌, ◌<◌, ◌==◌, ◌||◌, Bool, true, false, if◌then◌else◌, List, [], ◌∷◌, ◌++◌, length, Option, Some, None, option_to_list, refl, sym, ◌∙◌, ap, arith}
use Rattle.pages.specs.declared.access.Store.{Store}
use Rattle.pages.specs.Memory.{IsBytes, after, covered, width_bytes}
use Rattle.pages.proofs.StoreLaws.{bytes_after, covered-append}
use Rattle.round_schedule.specs.declared.access.Access.{Access}
use Rattle.round_schedule.specs.declared.access.Access.TheVariants.{Load, Store as StoreAccess, LoadReserved, StoreConditional, Atomic, Fence}
use Rattle.round_schedule.specs.declared.access.Stepped.{Stepped}
use Rattle.round_schedule.specs.declared.access.Stepped.TheVariants.{Done, Waits, Stopped}
use Rattle.round_schedule.specs.declared.event.Event.{Event}
use Rattle.round_schedule.specs.declared.event.Phase.{Phase}
use Rattle.round_schedule.specs.declared.event.Phase.TheVariants.{Parallel}
use Rattle.round_schedule.specs.declared.span.Span.{Span}
use Rattle.round_schedule.specs.Accesses.{must_be_serial, writes}
use Rattle.round_schedule.specs.Events.{event_of, events_of}
use Rattle.round_schedule.specs.Held.{any_byte, held, held_from, held_after_own, unless}
use Rattle.round_schedule.specs.Schedule.{HartRound, Progress, Words, began, by_answer, ended, events_from, first_or_zero, hart_round_of, hart_rounds, next_of, rest_of, round_from, went}
use Rattle.round_schedule.specs.Sound.{Agrees, IsParallel, Sound}
use Rattle.round_schedule.specs.Reservations.{Commits, Tied, Updates, covered_by_others}
use Rattle.round_schedule.proofs.Holding.{held-append, held_from-append}

-- ---- tests on bytes

or_assoc : (a b c : Bool) → ((a || b) || c) ≡ (a || (b || c))
or_assoc true b c = refl
or_assoc false b c = refl

or_false : (b : Bool) → (b || false) ≡ b
or_false true = refl
or_false false = refl

swap_or : (a b c d : Bool) → ((a || b) || (c || d)) ≡ ((a || c) || (b || d))
swap_or true b c d = refl
swap_or false true true d = refl
swap_or false true false d = refl
swap_or false false true d = refl
swap_or false false false d = refl

any_same : (f g : ℕ → Bool) (a n : ℕ) → ((x : ℕ) → f x ≡ g x) → any_byte f a n ≡ any_byte g a n
any_same f g a zero h = refl
any_same f g a (suc n) h = cc (h a, any_same f g (a + 1) n h)

any_none : (f : ℕ → Bool) (a n : ℕ) → ((x : ℕ) → f x ≡ false) → any_byte f a n ≡ false
any_none f a zero h = refl
any_none f a (suc n) h = ap (λ (b : Bool). b || any_byte f (a + 1) n) (h a) ∙ any_none f (a + 1) n h

any_or : (f g : ℕ → Bool) (a n : ℕ) → any_byte (λ x. f x || g x) a n ≡ (any_byte f a n || any_byte g a n)
any_or f g a zero = refl
any_or f g a (suc n) =
    ap (λ (b : Bool). (f a || g a) || b) (any_or f g (a + 1) n) ∙ swap_or (f a) (g a) (any_byte f (a + 1) n) (any_byte g (a + 1) n)

pub unless_same : (f g : ℕ → Bool) (r : Option Span) → ((x : ℕ) → f x ≡ g x) → unless f r ≡ unless g r
unless_same f g None h = refl
unless_same f g (Some s) h = ap (λ (b : Bool). if b then None else Some s) (any_same f g s.address (width_bytes s.width) h)

pub unless_none : (f : ℕ → Bool) (r : Option Span) → ((x : ℕ) → f x ≡ false) → unless f r ≡ r
unless_none f None h = refl
unless_none f (Some s) h = ap (λ (b : Bool). if b then None else Some s) (any_none f s.address (width_bytes s.width) h)

twice_by : (f g : ℕ → Bool) (s : Span) (b : Bool) → any_byte f s.address (width_bytes s.width) ≡ b →
    unless g (if b then None else Some s) ≡ (if b || any_byte g s.address (width_bytes s.width) then None else Some s)
twice_by f g s true e = refl
twice_by f g s false e = refl

pub unless_twice : (f g : ℕ → Bool) (r : Option Span) → unless g (unless f r) ≡ unless (λ x. f x || g x) r
unless_twice f g None = refl
unless_twice f g (Some s) =
    twice_by f g s (any_byte f s.address (width_bytes s.width)) refl
    ∙ ap (λ (b : Bool). if b then None else Some s) (sym (any_or f g s.address (width_bytes s.width)))

-- ---- the accesses of a hart's round

own_stays : (a : Access) (r : Option Span) → must_be_serial a ≡ false → held_after_own a r ≡ r
own_stays (Load w p a v) r h = refl
own_stays (StoreAccess w p a v) r h = refl
own_stays (LoadReserved w o p a v) r h = cc
own_stays (StoreConditional w o p a v) r h = cc
own_stays (Atomic w o p a v u) r h = refl
own_stays (Fence b a m p) r h = refl

-- whether one of the accesses writes the byte
abbrev pub some_writes : List Access → ℕ → Bool
some_writes [] x = false
some_writes (a ∷ as') x = writes a x || some_writes as' x

abbrev pub AllParallel : List Access → Type 0
AllParallel [] = Unit {0}
AllParallel (a ∷ as') = (must_be_serial a ≡ false) × AllParallel as'

some_writes-append : (as' bs : List Access) (x : ℕ) → some_writes (as' ++ bs) x ≡ (some_writes as' x || some_writes bs x)
some_writes-append [] bs x = refl
some_writes-append (a ∷ as') bs x = ap (λ (b : Bool). writes a x || b) (some_writes-append as' bs x) ∙ sym (or_assoc (writes a x) (some_writes as' x) (some_writes bs x))

AllParallel-append : (as' bs : List Access) → AllParallel as' → AllParallel bs → AllParallel (as' ++ bs)
AllParallel-append [] bs h k = k
AllParallel-append (a ∷ as') bs h k = (h.0, AllParallel-append as' bs h.1 k)

-- what they do to the reservation of hart h
held_by_round : (n i h : ℕ) (as' : List Access) (r : Option Span) (b : Bool) → (i == h) ≡ b → AllParallel as' →
    held_from h r (events_of n i Parallel as') ≡ (if b then r else unless (some_writes as') r)
held_by_round n i h [] r true e p = refl
held_by_round n i h [] r false e p = sym (unless_none (λ x. false) r (λ x. refl))
held_by_round n i h (a ∷ as') r true e p =
    ap (λ (c : Bool). held_from h (if c then held_after_own a r else unless (writes a) r) (events_of n i Parallel as')) e
    ∙ ap (λ (s : Option Span). held_from h s (events_of n i Parallel as')) (own_stays a r p.0) ∙ held_by_round n i h as' r true e p.1
held_by_round n i h (a ∷ as') r false e p =
    ap (λ (c : Bool). held_from h (if c then held_after_own a r else unless (writes a) r) (events_of n i Parallel as')) e
    ∙ held_by_round n i h as' (unless (writes a) r) false e p.1 ∙ unless_twice (writes a) (some_writes as') r

-- the stores of a hart's round cover what its accesses write
pub record Logged (as' : List Access) (ss : List Store) : Type 0 where
  pub parallel : AllParallel as'
  pub same : (x : ℕ) → covered ss x ≡ some_writes as' x

log_more : (bs : List ℕ) (as' : List Access) (ss ts : List Store) (a : Option Access) → Agrees bs ts a → IsParallel a → Logged as' ss → Logged (as' ++ option_to_list a) (ss ++ ts)
log_more bs as' ss ts None m q l = record {
  parallel = AllParallel-append as' [] l.parallel tt;
  same = λ x. covered-append ss ts x ∙ ap (λ (v : List Store). covered ss x || covered v x) m ∙ ap (λ (b : Bool). b || false) (l.same x) ∙ sym (some_writes-append as' [] x);
}
log_more bs as' ss ts (Some a) m q l = record {
  parallel = AllParallel-append as' (a ∷ []) l.parallel (q, tt);
  same = λ x. covered-append ss ts x ∙ cc (l.same x, m.put_where x, or_false (writes a x)) ∙ sym (some_writes-append as' (a ∷ []) x);
}

module _ {H C : Type 0} (w : Words H C) (sound : Sound w) (bs : List ℕ) (small : IsBytes bs) where
  LoggedAt : Progress H → Type 0
  LoggedAt p = Logged p.accesses p.stores

  logged_answered : (p : Progress H) (f : Progress H → HartRound H) (y : Stepped) → (next_of w bs p).answer ≡ y →
      ((q : Progress H) → LoggedAt q → LoggedAt (f q).last) → LoggedAt p → LoggedAt (by_answer y p (next_of w bs p) f).last
  unfolding LoggedAt
  logged_answered p f (Done a) is rest l = rest (went p (next_of w bs p) a)
      (log_more (after bs p.stores) p.accesses p.stores (next_of w bs p).stores a
      (sound.step_agrees p.hart (after bs p.stores) a (bytes_after bs p.stores small) is) (sound.step_parallel p.hart (after bs p.stores) a is) l)
  logged_answered p f Waits is rest l = l
  logged_answered p f (Stopped code) is rest l = l

  logged_stopped : (p : Progress H) (q : HartRound H) (s : Bool) → LoggedAt p → LoggedAt q.last → LoggedAt (if s then ended p false else q).last
  logged_stopped p q true a b = a
  logged_stopped p q false a b = b

  round_logged : (k : ℕ) (p : Progress H) → LoggedAt p → LoggedAt (round_from w bs k p).last
  unfolding round_from
  round_logged zero p l = l
  round_logged (suc k) p l =
      logged_stopped p (by_answer (next_of w bs p).answer p (next_of w bs p) (round_from w bs k)) (w.stopped p.hart) l
      (logged_answered p (round_from w bs k) (next_of w bs p).answer refl (round_logged k) l)

  hart_logged : (q : ℕ) (h : H) → Logged (hart_round_of w bs q h).last.accesses (hart_round_of w bs q h).last.stores
  unfolding LoggedAt
  hart_logged q h = round_logged q (began h) (record { parallel = tt; same = λ x. refl })

  round_breaks : (n i h : ℕ) (p : HartRound H) (r : Option Span) (b : Bool) → (i == h) ≡ b → Logged p.last.accesses p.last.stores →
      held_from h r (events_of n i Parallel p.last.accesses) ≡ unless (λ x. if b then false else covered p.last.stores x) r
  round_breaks n i h p r true e l = held_by_round n i h p.last.accesses r true e l.parallel ∙ sym (unless_none (λ x. false) r (λ x. refl))
  round_breaks n i h p r false e l = held_by_round n i h p.last.accesses r false e l.parallel ∙ unless_same (some_writes p.last.accesses) (covered p.last.stores) r (λ x. sym (l.same x))

  rounds_break : (n i h : ℕ) (qs : List ℕ) (hs : List H) (r : Option Span) →
      held_from h r (events_from n i (hart_rounds w bs qs hs)) ≡ unless (covered_by_others h i (hart_rounds w bs qs hs)) r
  rounds_break n i h qs [] r = sym (unless_none (λ x. false) r (λ x. refl))
  rounds_break n i h qs (k ∷ hs) r =
      let one : HartRound H = hart_round_of w bs (first_or_zero qs) k in
      let others : List (HartRound H) = hart_rounds w bs (rest_of qs) hs in
      held_from-append h r (events_of n i Parallel one.last.accesses) (events_from n (suc i) others)
      ∙ rounds_break n (suc i) h (rest_of qs) hs (held_from h r (events_of n i Parallel one.last.accesses))
      ∙ ap (unless (covered_by_others h (suc i) others)) (round_breaks n i h one r (i == h) refl (hart_logged (first_or_zero qs) k))
      ∙ unless_twice (λ x. if i == h then false else covered one.last.stores x) (covered_by_others h (suc i) others) r

  -- a list that a commit leaves is what the trace says after the parallel phase
  commit_tied : (n : ℕ) (qs : List ℕ) (hs : List H) (old new : List (Option Span)) (t : List Event) → Tied old t →
      Commits (hart_rounds w bs qs hs) old new → Tied new (t ++ events_from n 0 (hart_rounds w bs qs hs))
  commit_tied n qs hs old new t tied c = record {
    each = λ h l.
        let low : h < length old = omega (arith, l, c.size) in
        c.each h low ∙ ap (unless (covered_by_others h 0 (hart_rounds w bs qs hs))) (tied.each h low)
        ∙ sym (rounds_break n 0 h qs hs (held h t)) ∙ sym (held-append h t (events_from n 0 (hart_rounds w bs qs hs)));
  }

pub commit_ties : {H C : Type 0} (w : Words H C) → Sound w → (bs : List ℕ) → IsBytes bs → (n : ℕ) (qs : List ℕ) (hs : List H) (old new : List (Option Span)) (t : List Event) → Tied old t →
    Commits (hart_rounds w bs qs hs) old new → Tied new (t ++ events_from n 0 (hart_rounds w bs qs hs))
commit_ties w sound bs small = commit_tied w sound bs small

-- ---- one access

pub access_ties : (n i : ℕ) (s : Phase) (a : Access) (old new : List (Option Span)) (t : List Event) → Tied old t → Updates i a old new → Tied new (t ++ event_of n i s a ∷ [])
access_ties n i s a old new t tied u = record {
  each = λ h l.
      let low : h < length old = omega (arith, l, u.size) in
      u.each h low ∙ ap (λ (r : Option Span). if i == h then held_after_own a r else unless (writes a) r) (tied.each h low) ∙ sym (held-append h t (event_of n i s a ∷ []));
}
