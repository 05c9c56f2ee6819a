-- What each access passes, each event of a run passes.
use Rattle.std.proofs.Common.{◌≡◌, ℕ, zero, suc, ◌+◌, Bool, true, false, if◌then◌else◌, List, [], ◌∷◌, ◌++◌, All, Option, Some, None, option_to_list, refl, subst, arith}
use Rattle.std.proofs.lemmas.List.Elements.{All-append, All-cons, All-head, All-push}
use Rattle.pages.specs.Memory.{after}
use Rattle.round_schedule.specs.declared.access.Access.{Access}
use Rattle.round_schedule.specs.declared.access.Stepped.{Stepped}
use Rattle.round_schedule.specs.declared.access.Stepped.TheVariants.{Done, Waits, Stopped}
use Rattle.round_schedule.specs.declared.event.Event.{Event}
use Rattle.round_schedule.specs.declared.event.Phase.{Phase}
use Rattle.round_schedule.specs.declared.event.Phase.TheVariants.{Parallel, Serial}
use Rattle.round_schedule.specs.Events.{event_of, events_of}
use Rattle.round_schedule.specs.Held.{held}
use Rattle.round_schedule.specs.Places.{AllPass, EventsPass}
use Rattle.round_schedule.specs.Schedule.{HartRound, Progress, State, Turn, Words, began, by_answer, committed, ended, events_from, first_or_zero, hart_round_of, hart_rounds, joined, next_of, opening_state, rest_of, round_from, round_of, run_of, serial_from, serial_next, turn_from, turn_of, turned, went}

module _ {H C : Type 0} (w : Words H C) (test : Access → Bool) (pass : AllPass w test) where
  Passes : List Event → Type 0
  Passes t = All (λ (e : Event). test e.access ≡ true) t

  AllPassed : List Access → Type 0
  AllPassed as' = All (λ a. test a ≡ true) as'

  one_passed : (as' : List Access) (a : Option Access) → AllPassed as' → ((b : Access) → a ≡ Some b → test b ≡ true) → AllPassed (as' ++ option_to_list a)
  unfolding AllPassed
  one_passed as' None h k = All-append (λ (a : Access). test a ≡ true) as' [] h (λ i d l. absurd (omega (arith, l)))
  one_passed as' (Some b) h k = All-push (λ (a : Access). test a ≡ true) as' b h (k b refl)

  events_pass : (n i : ℕ) (s : Phase) (as' : List Access) → AllPassed as' → Passes (events_of n i s as')
  unfolding AllPassed Passes
  events_pass n i s [] h = λ k d l. absurd (omega (arith, l))
  events_pass n i s (a ∷ as') h = All-cons (λ (e : Event). test e.access ≡ true) (event_of n i s a) (events_of n i s as') (All-head (λ (b : Access). test b ≡ true) a as' h)
      (events_pass n i s as' (λ k d l. h (suc k) d (omega (arith, l))))

  round_answered : (bs : List ℕ) (p : Progress H) (f : Progress H → HartRound H) (y : Stepped) → (next_of w bs p).answer ≡ y →
      ((q : Progress H) → AllPassed q.accesses → AllPassed (f q).last.accesses) → AllPassed p.accesses → AllPassed (by_answer y p (next_of w bs p) f).last.accesses
  round_answered bs p f (Done a) is rest h =
      rest (went p (next_of w bs p) a) (one_passed p.accesses a h (λ b e. pass.steps p.hart (after bs p.stores) b (subst (λ (o : Option Access). (next_of w bs p).answer ≡ Done o) e is)))
  round_answered bs p f Waits is rest h = h
  round_answered bs p f (Stopped code) is rest h = h

  round_stopped : (p : Progress H) (q : HartRound H) (s : Bool) → AllPassed p.accesses → AllPassed q.last.accesses → AllPassed (if s then ended p false else q).last.accesses
  round_stopped p q true a b = a
  round_stopped p q false a b = b

  round_passes : (bs : List ℕ) (k : ℕ) (p : Progress H) → AllPassed p.accesses → AllPassed (round_from w bs k p).last.accesses
  unfolding round_from
  round_passes bs zero p h = h
  round_passes bs (suc k) p h =
      round_stopped p (by_answer (next_of w bs p).answer p (next_of w bs p) (round_from w bs k)) (w.stopped p.hart) h
      (round_answered bs p (round_from w bs k) (next_of w bs p).answer refl (round_passes bs k) h)

  none_passed : AllPassed []
  unfolding AllPassed
  none_passed = λ k d l. absurd (omega (arith, l))

  rounds_pass : (bs : List ℕ) (n i : ℕ) (qs : List ℕ) (hs : List H) → Passes (events_from n i (hart_rounds w bs qs hs))
  unfolding Passes
  rounds_pass bs n i qs [] = λ k d l. absurd (omega (arith, l))
  rounds_pass bs n i qs (h ∷ hs) =
      let one : HartRound H = hart_round_of w bs (first_or_zero qs) h in
      All-append (λ (e : Event). test e.access ≡ true) (events_of n i Parallel one.last.accesses) (events_from n (suc i) (hart_rounds w bs (rest_of qs) hs))
      (events_pass n i Parallel one.last.accesses (round_passes bs (first_or_zero qs) (began h) none_passed)) (rounds_pass bs n (suc i) (rest_of qs) hs)

  turn_answered : (n i k : ℕ) (p : Turn H C) (f : Turn H C → Turn H C) (y : Stepped) → (serial_next w n i p).answer ≡ y →
      ((q : Turn H C) → Passes q.trace → Passes (f q).trace) → Passes p.trace → Passes (turned n i y p (serial_next w n i p) f).trace
  unfolding Passes
  turn_answered n i k p f (Done a) is rest h =
      rest _ (All-append (λ (e : Event). test e.access ≡ true) p.trace (events_of n i Serial (option_to_list a)) h
      (events_pass n i Serial (option_to_list a)
      (one_passed [] a none_passed (λ b e. pass.serial_steps n p.hart p.bytes p.console (held i p.trace) b (subst (λ (o : Option Access). (serial_next w n i p).answer ≡ Done o) e is)))))
  turn_answered n i k p f Waits is rest h = h
  turn_answered n i k p f (Stopped code) is rest h = h

  turn_stopped : (p q : Turn H C) (s : Bool) → Passes p.trace → Passes q.trace → Passes (if s then p else q).trace
  turn_stopped p q true a b = a
  turn_stopped p q false a b = b

  turn_passes : (n i k : ℕ) (p : Turn H C) → Passes p.trace → Passes (turn_from w n i k p).trace
  unfolding turn_from
  turn_passes n i zero p h = h
  turn_passes n i (suc k) p h =
      turn_stopped p (turned n i (serial_next w n i p).answer p (serial_next w n i p) (turn_from w n i k)) (w.stopped p.hart) h
      (turn_answered n i k p (turn_from w n i k) (serial_next w n i p).answer refl (turn_passes n i k) h)

  serial_passes : (budget i : ℕ) (rs : List (HartRound H)) (s : State H C) → Passes s.trace → Passes (serial_from w budget i rs s).trace
  serial_passes budget i [] s h = h
  serial_passes budget i (r ∷ rs) s h =
      serial_passes budget (suc i) rs (joined s (turn_of w budget s i r))
      (turn_passes s.rounds i (if r.waits then budget else 0) (record { hart = r.last.hart; bytes = s.bytes; console = s.console; trace = s.trace }) h)

  one_round_passes : (budget : ℕ) (quotas : ℕ → List ℕ) (s : State H C) → Passes s.trace → Passes (round_of w budget quotas s).trace
  unfolding Passes round_of
  one_round_passes budget quotas s h =
      let rs : List (HartRound H) = hart_rounds w s.bytes (quotas s.rounds) s.harts in
      serial_passes budget 0 rs (committed s rs)
      (All-append (λ (e : Event). test e.access ≡ true) s.trace (events_from (s.rounds + 1) 0 rs) h (rounds_pass s.bytes (s.rounds + 1) 0 (quotas s.rounds) s.harts))

  run_passes : (budget : ℕ) (quotas : ℕ → List ℕ) (n : ℕ) (s : State H C) → Passes s.trace → Passes (run_of w budget quotas n s).trace
  unfolding run_of
  run_passes budget quotas zero s h = h
  run_passes budget quotas (suc n) s h = run_passes budget quotas n (round_of w budget quotas s) (one_round_passes budget quotas s h)

  whole_run_passes : (budget : ℕ) (quotas : ℕ → List ℕ) (n : ℕ) (hs : List H) (bs : List ℕ) (c : C) →
      All (λ (e : Event). test e.access ≡ true) (run_of w budget quotas n (opening_state hs bs c)).trace
  unfolding Passes
  whole_run_passes budget quotas n hs bs c = run_passes budget quotas n (opening_state hs bs c) (λ k d l. absurd (omega (arith, l)))

pub passing : (H C : Type 0) → EventsPass H C
passing H C = λ w test pass budget quotas n hs bs c. whole_run_passes w test pass budget quotas n hs bs c
