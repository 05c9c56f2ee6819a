-- Each event of a run has the form of its kind, and places rise.
use Rattle.std.proofs.Common.{◌<◌, ◌^◌, ◌*◌, ◌≡◌, ℕ, zero, suc, ◌+◌, ◌≤◌, Bool, true, false, if◌then◌else◌, List, [], ◌∷◌, ◌++◌, length, All, Option, Some, None, option_to_list, refl, subst, arith}
use Rattle.std.proofs.lemmas.List.Elements.{All-append, All-cons, All-head, All-push}
use Rattle.pages.specs.declared.access.Store.{Store}
use Rattle.pages.specs.Memory.{IsBytes, after}
use Rattle.pages.proofs.StoreLaws.{bytes_after, length-after}
use Rattle.round_schedule.specs.declared.access.Access.{Access}
use Rattle.round_schedule.specs.declared.access.Access.TheVariants.{Load, Store as StoreAccess, LoadReserved, StoreConditional, Atomic, Fence}
use Rattle.round_schedule.specs.declared.access.Stepped.{Stepped}
use Rattle.round_schedule.specs.declared.access.Stepped.TheVariants.{Done, Waits, Stopped}
use Rattle.round_schedule.specs.declared.event.Event.{Event}
use Rattle.round_schedule.specs.declared.event.Phase.{Phase}
use Rattle.round_schedule.specs.declared.event.Phase.TheVariants.{Parallel, Serial}
use Rattle.round_schedule.specs.Events.{event_of, events_of}
use Rattle.round_schedule.specs.Held.{held}
use Rattle.round_schedule.specs.Schedule.{HartRound, Progress, State, Turn, Words, all_stores, began, by_answer, committed, ended, events_from, first_or_zero, hart_round_of, hart_rounds, joined, next_of, opening_state, rest_of, round_from, round_of, run_of, serial_from, serial_next, turn_from, turn_of, turned, went}
use Rattle.round_schedule.specs.Places.{Placed}
use Rattle.round_schedule.specs.Sound.{Counts}
use Rattle.round_schedule.proofs.Rising.{places_low, rising}
use Rattle.hart_step.specs.Forms.{Formed, Forms}
use Rattle.trace.specs.Traced.{IsTrace}

-- an access below a limit is one below a greater limit
pub formed_below : (limit most : ℕ) → limit ≤ most → (a : Access) → Formed limit a → Formed most a
formed_below limit most le (Load w p a r) h = ((h.0.0, omega (arith, h.0.1, le)), h.1)
formed_below limit most le (StoreAccess w p a v) h = ((h.0.0, omega (arith, h.0.1, le)), h.1)
formed_below limit most le (LoadReserved w o p a r) h = (h.0, (h.1.0, omega (arith, h.1.1, le)), h.2)
formed_below limit most le (StoreConditional w o p a v) h = (h.0, (h.1.0, omega (arith, h.1.1, le)), h.2)
formed_below limit most le (Atomic w o p a r v) h = (h.0, (h.1.0, omega (arith, h.1.1, le)), h.2, h.3)
formed_below limit most le (Fence b a m p) h = h

module _ {H C : Type 0} (w : Words H C) (forms : Forms w) (limit : ℕ) where
  AllFormed : List Event → Type 0
  AllFormed t = All (λ (e : Event). Formed limit e.access) t

  AreFormed : List Access → Type 0
  AreFormed as' = All (λ (a : Access). Formed limit a) as'

  -- bytes, at most so many
  record Sized (bs : List ℕ) : Type 0 where
    pub bytes : IsBytes bs
    pub size : length bs ≤ limit

  sized_after : (bs : List ℕ) (ss : List Store) → Sized bs → Sized (after bs ss)
  sized_after bs ss h = record { bytes = bytes_after bs ss h.bytes; size = omega (arith, length-after bs ss, h.size) }

  one_formed : (as' : List Access) (a : Option Access) → AreFormed as' → ((b : Access) → a ≡ Some b → Formed limit b) → AreFormed (as' ++ option_to_list a)
  unfolding AreFormed
  one_formed as' None h k = All-append (λ (a : Access). Formed limit a) as' [] h (λ i d l. absurd (omega (arith, l)))
  one_formed as' (Some b) h k = All-push (λ (a : Access). Formed limit a) as' b h (k b refl)

  events_formed : (n i : ℕ) (s : Phase) (as' : List Access) → AreFormed as' → AllFormed (events_of n i s as')
  unfolding AreFormed AllFormed
  events_formed n i s [] h = λ k d l. absurd (omega (arith, l))
  events_formed n i s (a ∷ as') h = All-cons (λ (e : Event). Formed limit e.access) (event_of n i s a) (events_of n i s as') (All-head (λ (b : Access). Formed limit b) a as' h)
      (events_formed n i s as' (λ k d l. h (suc k) d (omega (arith, l))))

  -- ---- the round of a hart

  round_answered : (bs : List ℕ) → Sized bs → (p : Progress H) (f : Progress H → HartRound H) (y : Stepped) → (next_of w bs p).answer ≡ y →
      ((q : Progress H) → AreFormed q.accesses → AreFormed (f q).last.accesses) → AreFormed p.accesses → AreFormed (by_answer y p (next_of w bs p) f).last.accesses
  round_answered bs sized p f (Done a) is rest h =
      let now : Sized (after bs p.stores) = sized_after bs p.stores sized in
      rest (went p (next_of w bs p) a) (one_formed p.accesses a h (λ b e. formed_below (length (after bs p.stores)) limit now.size b
      (forms.step_forms p.hart (after bs p.stores) b now.bytes (subst (λ (o : Option Access). (next_of w bs p).answer ≡ Done o) e is))))
  round_answered bs sized p f Waits is rest h = h
  round_answered bs sized p f (Stopped code) is rest h = h

  round_stopped : (p : Progress H) (q : HartRound H) (s : Bool) → AreFormed p.accesses → AreFormed q.last.accesses → AreFormed (if s then ended p false else q).last.accesses
  round_stopped p q true a b = a
  round_stopped p q false a b = b

  round_formed : (bs : List ℕ) → Sized bs → (k : ℕ) (p : Progress H) → AreFormed p.accesses → AreFormed (round_from w bs k p).last.accesses
  unfolding round_from
  round_formed bs sized zero p h = h
  round_formed bs sized (suc k) p h =
      round_stopped p (by_answer (next_of w bs p).answer p (next_of w bs p) (round_from w bs k)) (w.stopped p.hart) h
      (round_answered bs sized p (round_from w bs k) (next_of w bs p).answer refl (round_formed bs sized k) h)

  none_formed : AreFormed []
  unfolding AreFormed
  none_formed = λ k d l. absurd (omega (arith, l))

  rounds_formed : (bs : List ℕ) → Sized bs → (n i : ℕ) (qs : List ℕ) (hs : List H) → AllFormed (events_from n i (hart_rounds w bs qs hs))
  unfolding AllFormed
  rounds_formed bs sized n i qs [] = λ k d l. absurd (omega (arith, l))
  rounds_formed bs sized n i qs (h ∷ hs) =
      let one : HartRound H = hart_round_of w bs (first_or_zero qs) h in
      All-append (λ (e : Event). Formed limit e.access) (events_of n i Parallel one.last.accesses) (events_from n (suc i) (hart_rounds w bs (rest_of qs) hs))
      (events_formed n i Parallel one.last.accesses (round_formed bs sized (first_or_zero qs) (began h) none_formed)) (rounds_formed bs sized n (suc i) (rest_of qs) hs)

  -- ---- the serial turns

  record Fine (t : List Event) (bs : List ℕ) : Type 0 where
    pub formed : AllFormed t
    pub sized : Sized bs

  turn_answered : (n i : ℕ) (p : Turn H C) (f : Turn H C → Turn H C) (y : Stepped) → (serial_next w n i p).answer ≡ y →
      ((q : Turn H C) → Fine q.trace q.bytes → Fine (f q).trace (f q).bytes) → Fine p.trace p.bytes →
      Fine (turned n i y p (serial_next w n i p) f).trace (turned n i y p (serial_next w n i p) f).bytes
  unfolding AllFormed
  turn_answered n i p f (Done a) is rest h =
      rest _ (record {
        formed = All-append (λ (e : Event). Formed limit e.access) p.trace (events_of n i Serial (option_to_list a)) h.formed
            (events_formed n i Serial (option_to_list a)
            (one_formed [] a none_formed (λ b e. formed_below (length p.bytes) limit h.sized.size b
            (forms.serial_forms n p.hart p.bytes p.console (held i p.trace) b h.sized.bytes (subst (λ (o : Option Access). (serial_next w n i p).answer ≡ Done o) e is)))));
        sized = sized_after p.bytes (serial_next w n i p).stores h.sized;
      })
  turn_answered n i p f Waits is rest h = h
  turn_answered n i p f (Stopped code) is rest h = h

  turn_stopped : (p q : Turn H C) (s : Bool) → Fine p.trace p.bytes → Fine q.trace q.bytes → Fine (if s then p else q).trace (if s then p else q).bytes
  turn_stopped p q true a b = a
  turn_stopped p q false a b = b

  turn_formed : (n i k : ℕ) (p : Turn H C) → Fine p.trace p.bytes → Fine (turn_from w n i k p).trace (turn_from w n i k p).bytes
  unfolding turn_from
  turn_formed n i zero p h = h
  turn_formed n i (suc k) p h =
      turn_stopped p (turned n i (serial_next w n i p).answer p (serial_next w n i p) (turn_from w n i k)) (w.stopped p.hart) h
      (turn_answered n i p (turn_from w n i k) (serial_next w n i p).answer refl (turn_formed n i k) h)

  serial_formed : (budget i : ℕ) (rs : List (HartRound H)) (s : State H C) → Fine s.trace s.bytes → Fine (serial_from w budget i rs s).trace (serial_from w budget i rs s).bytes
  serial_formed budget i [] s h = h
  serial_formed budget i (r ∷ rs) s h =
      serial_formed budget (suc i) rs (joined s (turn_of w budget s i r))
      (turn_formed s.rounds i (if r.waits then budget else 0) (record { hart = r.last.hart; bytes = s.bytes; console = s.console; trace = s.trace }) h)

  -- ---- rounds and runs

  one_round_formed : (budget : ℕ) (quotas : ℕ → List ℕ) (s : State H C) → Fine s.trace s.bytes → Fine (round_of w budget quotas s).trace (round_of w budget quotas s).bytes
  unfolding AllFormed round_of
  one_round_formed budget quotas s h =
      let rs : List (HartRound H) = hart_rounds w s.bytes (quotas s.rounds) s.harts in
      serial_formed budget 0 rs (committed s rs) (record {
        formed = All-append (λ (e : Event). Formed limit e.access) s.trace (events_from (s.rounds + 1) 0 rs) h.formed (rounds_formed s.bytes h.sized (s.rounds + 1) 0 (quotas s.rounds) s.harts);
        sized = sized_after s.bytes (all_stores rs) h.sized;
      })

  run_formed : (budget : ℕ) (quotas : ℕ → List ℕ) (n : ℕ) (s : State H C) → Fine s.trace s.bytes → Fine (run_of w budget quotas n s).trace (run_of w budget quotas n s).bytes
  unfolding run_of
  run_formed budget quotas zero s h = h
  run_formed budget quotas (suc n) s h = run_formed budget quotas n (round_of w budget quotas s) (one_round_formed budget quotas s h)

pub run_forms : {H C : Type 0} (w : Words H C) → Forms w → (limit budget : ℕ) (quotas : ℕ → List ℕ) (n : ℕ) (hs : List H) (bs : List ℕ) (c : C) → IsBytes bs → length bs ≤ limit →
    All (λ (e : Event). Formed limit e.access) (run_of w budget quotas n (opening_state hs bs c)).trace
unfolding AllFormed
run_forms w forms limit budget quotas n hs bs c bytes size =
    (run_formed w forms limit budget quotas n (opening_state hs bs c) (record { formed = λ k d l. absurd (omega (arith, l)); sized = record { bytes = bytes; size = size } })).formed

-- what Trace::of takes
pub leaves_trace : {H C : Type 0} (w : Words H C) (done : H → ℕ) → Forms w → Counts w done → (budget most : ℕ) (quotas : ℕ → List ℕ) → ((m : ℕ) → All (λ q. q ≤ most) (quotas m)) →
    (n : ℕ) (hs : List H) (bs : List ℕ) (c : C) → IsBytes bs → length bs ≤ 2 ^ 32 → All (λ h. done h ≡ 0) hs → n * (most + budget) < 2 ^ 64 →
    IsTrace (run_of w budget quotas n (opening_state hs bs c)).trace
leaves_trace {H} {C} w done forms counts budget most quotas low n hs bs c bytes size none small = record {
  formed = run_forms w forms (2 ^ 32) budget quotas n hs bs c bytes size;
  rising = rising H C w done counts budget most quotas low n hs bs c none small;
}

-- the same of one more round
pub round_leaves_trace : {H C : Type 0} (w : Words H C) (done : H → ℕ) → Forms w → Counts w done → (last most budget : ℕ) (quotas : ℕ → List ℕ) (s : State H C) →
    ((m : ℕ) → All (λ q. q ≤ most) (quotas m)) → last + most + budget < 2 ^ 64 → IsBytes s.bytes → length s.bytes ≤ 2 ^ 32 → IsTrace s.trace → Placed done last s.harts s.trace →
    IsTrace (round_of w budget quotas s).trace
unfolding AllFormed
round_leaves_trace w done forms counts last most budget quotas s low small bytes size t p = record {
  formed = (one_round_formed w forms (2 ^ 32) budget quotas s (record { formed = t.formed; sized = record { bytes = bytes; size = size } })).formed;
  rising = (places_low w done counts last most budget quotas s low small p).rising;
}
