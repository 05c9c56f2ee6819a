-- Telling of each instruction changes nothing of a run but its trace.
use Rattle.std.proofs.Common.{◌≡◌, ◌≢◌, ℕ, zero, suc, ◌+◌, ◌==◌, ◌&&◌, Bool, true, false, if◌then◌else◌, List, [], ◌∷◌, ◌++◌, map, option_to_list, Option, Some, None, refl, sym, ap, subst, ◌∙◌, append-nil}
use Rattle.pages.specs.declared.access.Store.{Store}
use Rattle.pages.specs.Memory.{after, width_bytes}
use Rattle.round_schedule.specs.declared.access.Access.{Access}
use Rattle.round_schedule.specs.Accesses.{writes}
use Rattle.round_schedule.proofs.Runs.{events_of-append}
use Rattle.round_schedule.specs.declared.access.Stepped.{Stepped}
use Rattle.round_schedule.specs.declared.access.Stepped.TheVariants.{Done, Stopped, Waits}
use Rattle.round_schedule.specs.declared.event.Event.{Event}
use Rattle.round_schedule.specs.declared.event.Phase.{Phase}
use Rattle.round_schedule.specs.declared.event.Phase.TheVariants.{Parallel, Serial}
use Rattle.round_schedule.specs.declared.span.Span.{Span}
use Rattle.round_schedule.specs.Events.{event_of, events_of}
use Rattle.round_schedule.specs.Held.{any_byte, held, held_after, held_from, held_after_own, unless}
use Rattle.round_schedule.specs.Schedule.{HartRound, StepOutcome, Progress, SerialOutcome, State, Turn, Words, all_stores, began, by_answer, committed, ended, events_from, finished, first_or_zero, hart_round_of, hart_rounds, joined, next_of, rest_of, round_from, round_of, run_of, serial_from, serial_next, turn_from, turn_of, turned, went}
use Rattle.round_schedule.specs.Sound.{Agrees, HasReservation, IsParallel, Matches, Sound}
use Rattle.execution.specs.Executions.{no_access}
use Rattle.execution.specs.Telling.{Tells, telling, tells-both, tells-more, tells-none, told, told_access, told_outcome, told_serially}

-- ---- traces

pub tells_append : (t u v w : List Event) → Tells t u → Tells v w → Tells (t ++ v) (u ++ w)
tells_append _ _ v w tells-none q = q
tells_append _ _ v w (tells-both e t u p) q = tells-both e (t ++ v) (u ++ w) (tells_append t u v w p q)
tells_append _ _ v w (tells-more e t u a p) q = tells-more e (t ++ v) (u ++ w) a (tells_append t u v w p q)

-- the accesses that are told of an answer, and those of the answer
told_accesses : (n i : ℕ) (s : Phase) (a : Option Access) → Tells (events_of n i s (option_to_list (told_access a))) (events_of n i s (option_to_list a))
told_accesses n i s None = tells-more (event_of n i s no_access) [] [] refl tells-none
told_accesses n i s (Some a) = tells-both (event_of n i s a) [] [] tells-none

-- ---- reservations

no_byte : (a n : ℕ) → any_byte (λ x. false) a n ≡ false
no_byte a zero = refl
no_byte a (suc n) = no_byte (a + 1) n

unbroken : (s : Option Span) → unless (λ x. false) s ≡ s
unbroken None = refl
unbroken (Some s) = ap (λ (b : Bool). if b then None else Some s) (no_byte s.address (width_bytes s.width))

kept_either_way : (b : Bool) (s : Option Span) → (if b then s else unless (λ x. false) s) ≡ s
kept_either_way true s = refl
kept_either_way false s = unbroken s

silent_after : (h : ℕ) (e : Event) (s : Option Span) → e.access ≡ no_access → held_after h e s ≡ s
silent_after h e s silent = ap (λ (a : Access). if e.hart == h then held_after_own a s else unless (writes a) s) silent ∙ kept_either_way (e.hart == h) s

held_told : (h : ℕ) (t u : List Event) (s : Option Span) → Tells t u → held_from h s t ≡ held_from h s u
held_told h _ _ s tells-none = refl
held_told h _ _ s (tells-both e t u p) = held_told h t u (held_after h e s) p
held_told h _ _ s (tells-more e t u silent p) = ap (λ (x : Option Span). held_from h x t) (silent_after h e s silent) ∙ held_told h t u s p

held_same : (h : ℕ) (t u : List Event) → Tells t u → held h t ≡ held h u
unfolding held
held_same h t u p = held_told h t u None p

-- ---- what is the same of rounds, turns and states

abbrev TellsOf : List Access → List Access → Type 0
TellsOf xs bs = (n i : ℕ) (s : Phase) → Tells (events_of n i s xs) (events_of n i s bs)

record SameRound {H : Type 0} (q r : HartRound H) : Type 0 where
  hart : q.last.hart ≡ r.last.hart
  stores : q.last.stores ≡ r.last.stores
  waits : q.waits ≡ r.waits
  accesses : TellsOf q.last.accesses r.last.accesses

data SameRounds {H : Type 0} : List (HartRound H) → List (HartRound H) → Type 0 where
  same-none : SameRounds [] []
  same-more : (q r : HartRound H) (qs rs : List (HartRound H)) → SameRound q r → SameRounds qs rs → SameRounds (q ∷ qs) (r ∷ rs)

record SameTurn {H C : Type 0} (p q : Turn H C) : Type 0 where
  hart : p.hart ≡ q.hart
  bytes : p.bytes ≡ q.bytes
  console : p.console ≡ q.console
  trace : Tells p.trace q.trace

pub record SameState {H C : Type 0} (s u : State H C) : Type 0 where
  pub harts : s.harts ≡ u.harts
  pub bytes : s.bytes ≡ u.bytes
  pub console : s.console ≡ u.console
  pub rounds : s.rounds ≡ u.rounds
  pub trace : Tells s.trace u.trace

if_round : {H : Type 0} (b : Bool) (p q r s : HartRound H) → SameRound p r → SameRound q s → SameRound (if b then p else q) (if b then r else s)
if_round true p q r s x y = x
if_round false p q r s x y = y

if_turn : {H C : Type 0} (a b : Bool) (p q r s : Turn H C) → a ≡ b → SameTurn p r → SameTurn q s → SameTurn (if a then p else q) (if b then r else s)
if_turn true true p q r s e x y = x
if_turn false false p q r s e x y = y
if_turn true false p q r s e x y = cc
if_turn false true p q r s e x y = cc

same_stores : {H : Type 0} (qs rs : List (HartRound H)) → SameRounds qs rs → all_stores qs ≡ all_stores rs
same_stores _ _ same-none = refl
same_stores _ _ (same-more q r qs rs s more) = ap (λ (x : List Store). x ++ all_stores qs) s.stores ∙ ap (λ (y : List Store). r.last.stores ++ y) (same_stores qs rs more)

same_events : {H : Type 0} (n i : ℕ) (qs rs : List (HartRound H)) → SameRounds qs rs → Tells (events_from n i qs) (events_from n i rs)
same_events n i _ _ same-none = tells-none
same_events n i _ _ (same-more q r qs rs s more) =
    tells_append (events_of n i Parallel q.last.accesses) (events_of n i Parallel r.last.accesses) (events_from n (suc i) qs) (events_from n (suc i) rs) (s.accesses n i Parallel) (same_events n (suc i) qs rs more)

tells_more_of : (xs bs : List Access) (a : Option Access) → TellsOf xs bs → TellsOf (xs ++ option_to_list (told_access a)) (bs ++ option_to_list a)
tells_more_of xs bs a t n i s =
    subst (λ (u : List Event). Tells u (events_of n i s (bs ++ option_to_list a))) (sym (events_of-append n i s xs (option_to_list (told_access a))))
    (subst (Tells (events_of n i s xs ++ events_of n i s (option_to_list (told_access a)))) (sym (events_of-append n i s bs (option_to_list a)))
    (tells_append (events_of n i s xs) (events_of n i s bs) _ _ (t n i s) (told_accesses n i s a)))

module _ {H C : Type 0} (w : Words H C) where
  -- ---- one hart's round

  told_answered : (p : Progress H) (xs : List Access) (o : StepOutcome H) (f g : Progress H → HartRound H) (y : Stepped) →
      ((q : Progress H) (bs : List Access) → TellsOf bs q.accesses → SameRound (f (record q { accesses = bs })) (g q)) → TellsOf xs p.accesses →
      SameRound (by_answer (told y) (record p { accesses = xs }) (told_outcome o) f) (by_answer y p o g)
  told_answered p xs o f g (Done a) rest t = rest (went p o a) (xs ++ option_to_list (told_access a)) (tells_more_of xs p.accesses a t)
  told_answered p xs o f g Waits rest t = record { hart = refl; stores = refl; waits = refl; accesses = t }
  told_answered p xs o f g (Stopped code) rest t = record { hart = refl; stores = refl; waits = refl; accesses = t }

  told_round : (bs : List ℕ) (k : ℕ) (p : Progress H) (xs : List Access) → TellsOf xs p.accesses → SameRound (round_from (telling w) bs k (record p { accesses = xs })) (round_from w bs k p)
  unfolding round_from
  told_round bs zero p xs t = record { hart = refl; stores = refl; waits = refl; accesses = t }
  told_round bs (suc k) p xs t =
      if_round (w.stopped p.hart) _ _ _ _ (record { hart = refl; stores = refl; waits = refl; accesses = t })
      (told_answered p xs (next_of w bs p) (round_from (telling w) bs k) (round_from w bs k) (next_of w bs p).answer (told_round bs k) t)

  told_rounds : (bs qs : List ℕ) (hs : List H) → SameRounds (hart_rounds (telling w) bs qs hs) (hart_rounds w bs qs hs)
  told_rounds bs qs [] = same-none
  told_rounds bs qs (h ∷ hs) = same-more _ _ _ _ (told_round bs (first_or_zero qs) (began h) [] (λ n i s. tells-none)) (told_rounds bs (rest_of qs) hs)

  -- ---- one hart's turn

  told_turned : (n i : ℕ) (p q : Turn H C) (o : SerialOutcome H C) (f g : Turn H C → Turn H C) (y : Stepped) →
      ((r s : Turn H C) → SameTurn r s → SameTurn (f r) (g s)) → SameTurn p q →
      SameTurn (turned n i (told y) p (told_serially o) f) (turned n i y q o g)
  told_turned n i p q o f g (Done a) rest t =
      rest _ _ (record {
        hart = refl;
        bytes = ap (λ (bs : List ℕ). after bs o.stores) t.bytes;
        console = refl;
        trace = tells_append p.trace q.trace _ _ t.trace (told_accesses n i Serial a);
      })
  told_turned n i p q o f g Waits rest t = record { hart = refl; bytes = t.bytes; console = t.console; trace = t.trace }
  told_turned n i p q o f g (Stopped code) rest t = record { hart = refl; bytes = t.bytes; console = t.console; trace = t.trace }

  same_next : (n i : ℕ) (p q : Turn H C) → SameTurn p q → w.serial_step n p.hart p.bytes p.console (held i p.trace) ≡ w.serial_step n q.hart q.bytes q.console (held i q.trace)
  same_next n i p q t =
      ap (λ (h : H). w.serial_step n h p.bytes p.console (held i p.trace)) t.hart
      ∙ ap (λ (bs : List ℕ). w.serial_step n q.hart bs p.console (held i p.trace)) t.bytes
      ∙ ap (λ (c : C). w.serial_step n q.hart q.bytes c (held i p.trace)) t.console
      ∙ ap (λ (r : Option Span). w.serial_step n q.hart q.bytes q.console r) (held_same i p.trace q.trace t.trace)

  told_turn : (n i k : ℕ) (p q : Turn H C) → SameTurn p q → SameTurn (turn_from (telling w) n i k p) (turn_from w n i k q)
  unfolding turn_from
  told_turn n i zero p q t = t
  told_turn n i (suc k) p q t =
      let o : SerialOutcome H C = serial_next w n i q in
      if_turn (w.stopped p.hart) (w.stopped q.hart) p _ q _ (ap (λ (h : H). w.stopped h) t.hart) t
      (subst (λ (x : SerialOutcome H C). SameTurn (turned n i (told x.answer) p (told_serially x) (turn_from (telling w) n i k)) (turned n i o.answer q o (turn_from w n i k)))
      (sym (same_next n i p q t)) (told_turned n i p q o (turn_from (telling w) n i k) (turn_from w n i k) o.answer (told_turn n i k) t))

  -- ---- rounds and runs

  told_turn_of : (budget i : ℕ) (s u : State H C) (q r : HartRound H) → SameState s u → SameRound q r → SameTurn (turn_of (telling w) budget s i q) (turn_of w budget u i r)
  told_turn_of budget i s u q r same round =
      let p : Turn H C = record { hart = q.last.hart; bytes = s.bytes; console = s.console; trace = s.trace } in
      let o : Turn H C = record { hart = r.last.hart; bytes = u.bytes; console = u.console; trace = u.trace } in
      let start : SameTurn p o = record { hart = round.hart; bytes = same.bytes; console = same.console; trace = same.trace } in
      subst (λ (n : ℕ). SameTurn (turn_from (telling w) n i (if q.waits then budget else 0) p) (turn_of w budget u i r)) (sym same.rounds)
      (subst (λ (b : Bool). SameTurn (turn_from (telling w) u.rounds i (if b then budget else 0) p) (turn_of w budget u i r)) (sym round.waits)
      (told_turn u.rounds i (if r.waits then budget else 0) p o start))

  told_serial : (budget i : ℕ) (qs rs : List (HartRound H)) (s u : State H C) → SameRounds qs rs → SameState s u → SameState (serial_from (telling w) budget i qs s) (serial_from w budget i rs u)
  told_serial budget i _ _ s u same-none same = same
  told_serial budget i _ _ s u (same-more q r qs rs round more) same =
      let t = told_turn_of budget i s u q r same round in
      told_serial budget (suc i) qs rs (joined s (turn_of (telling w) budget s i q)) (joined u (turn_of w budget u i r)) more (record {
        harts = ap (λ (hs : List H). hs ++ (turn_of (telling w) budget s i q).hart ∷ []) same.harts ∙ ap (λ (h : H). u.harts ++ h ∷ []) t.hart;
        bytes = t.bytes;
        console = t.console;
        rounds = same.rounds;
        trace = t.trace;
      })

  same_rounds : (quotas : ℕ → List ℕ) (s u : State H C) → SameState s u → SameRounds (hart_rounds (telling w) s.bytes (quotas s.rounds) s.harts) (hart_rounds w u.bytes (quotas u.rounds) u.harts)
  same_rounds quotas s u same =
      subst (λ (bs : List ℕ). SameRounds (hart_rounds (telling w) bs (quotas s.rounds) s.harts) (hart_rounds w u.bytes (quotas u.rounds) u.harts)) (sym same.bytes)
      (subst (λ (n : ℕ). SameRounds (hart_rounds (telling w) u.bytes (quotas n) s.harts) (hart_rounds w u.bytes (quotas u.rounds) u.harts)) (sym same.rounds)
      (subst (λ (hs : List H). SameRounds (hart_rounds (telling w) u.bytes (quotas u.rounds) hs) (hart_rounds w u.bytes (quotas u.rounds) u.harts)) (sym same.harts)
      (told_rounds u.bytes (quotas u.rounds) u.harts)))

  same_committed : (qs rs : List (HartRound H)) (s u : State H C) → SameRounds qs rs → SameState s u → SameState (committed s qs) (committed u rs)
  same_committed qs rs s u rounds same = record {
    harts = refl;
    bytes = ap (λ (bs : List ℕ). after bs (all_stores qs)) same.bytes ∙ ap (after u.bytes) (same_stores qs rs rounds);
    console = same.console;
    rounds = ap (λ (n : ℕ). n + 1) same.rounds;
    trace = tells_append s.trace u.trace _ _ same.trace (subst (λ (n : ℕ). Tells (events_from (n + 1) 0 qs) (events_from (u.rounds + 1) 0 rs)) (sym same.rounds) (same_events (u.rounds + 1) 0 qs rs rounds));
  }

  told_round_of : (budget : ℕ) (quotas : ℕ → List ℕ) (s u : State H C) → SameState s u → SameState (round_of (telling w) budget quotas s) (round_of w budget quotas u)
  unfolding round_of
  told_round_of budget quotas s u same =
      let rounds = same_rounds quotas s u same in
      told_serial budget 0 _ _ _ _ rounds (same_committed _ _ s u rounds same)

  pub told_run_of : (budget : ℕ) (quotas : ℕ → List ℕ) (n : ℕ) (s u : State H C) → SameState s u → SameState (run_of (telling w) budget quotas n s) (run_of w budget quotas n u)
  unfolding run_of
  told_run_of budget quotas zero s u same = same
  told_run_of budget quotas (suc n) s u same = told_run_of budget quotas n _ _ (told_round_of budget quotas s u same)

done_is : (a b : Option Access) → Done a ≡ Done b → a ≡ b
done_is a b e = cc

-- ---- sound instructions that tell of each one are sound

no_stores_match : (bs : List ℕ) (ss : List Store) → ss ≡ [] → Matches bs no_access ss
no_stores_match bs ss e = subst (Matches bs no_access) (sym e) (record { read_within = λ x r. cc; read_bytes = λ x r. cc; put_bytes = λ x b. refl; put_where = λ x. refl })

told_agrees : (y : Stepped) (bs : List ℕ) (ss : List Store) (a : Option Access) → ((b : Option Access) → y ≡ Done b → Agrees bs ss b) → told y ≡ Done a → Agrees bs ss a
told_agrees (Done None) bs ss a each e = subst (Agrees bs ss) (done_is (Some no_access) a e) (no_stores_match bs ss (each None refl))
told_agrees (Done (Some x)) bs ss a each e = subst (Agrees bs ss) (done_is (Some x) a e) (each (Some x) refl)
told_agrees Waits bs ss a each e = cc
told_agrees (Stopped code) bs ss a each e = cc

told_parallel : (y : Stepped) (a : Option Access) → ((b : Option Access) → y ≡ Done b → IsParallel b) → told y ≡ Done a → IsParallel a
told_parallel (Done None) a each e = subst IsParallel (done_is (Some no_access) a e) refl
told_parallel (Done (Some x)) a each e = subst IsParallel (done_is (Some x) a e) (each (Some x) refl)
told_parallel Waits a each e = cc
told_parallel (Stopped code) a each e = cc

told_reserved : (y : Stepped) (r : Option Span) (a : Option Access) → ((b : Option Access) → y ≡ Done b → HasReservation r b) → told y ≡ Done a → HasReservation r a
told_reserved (Done None) r a each e = subst (HasReservation r) (done_is (Some no_access) a e) tt
told_reserved (Done (Some x)) r a each e = subst (HasReservation r) (done_is (Some x) a e) (each (Some x) refl)
told_reserved Waits r a each e = cc
told_reserved (Stopped code) r a each e = cc

pub telling_is_sound : {H C : Type 0} (w : Words H C) → Sound w → Sound (telling w)
telling_is_sound w s = record {
  step_agrees = λ h bs a small e. told_agrees (w.step h bs).answer bs (w.step h bs).stores a (λ b. s.step_agrees h bs b small) e;
  step_parallel = λ h bs a e. told_parallel (w.step h bs).answer a (λ b. s.step_parallel h bs b) e;
  serial_agrees = λ n h bs c r a small e. told_agrees (w.serial_step n h bs c r).answer bs (w.serial_step n h bs c r).stores a (λ b. s.serial_agrees n h bs c r b small) e;
  serial_reserved = λ n h bs c r a e. told_reserved (w.serial_step n h bs c r).answer r a (λ b. s.serial_reserved n h bs c r b) e;
}
