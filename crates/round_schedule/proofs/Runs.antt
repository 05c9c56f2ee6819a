-- The trace of every run over sound words is a round trace.
use Rattle.std.proofs.Common.{◌≡◌, ℕ, zero, suc, ◌+◌, ◌≤◌, Bool, true, false, if◌then◌else◌, List, [], ◌∷◌, ◌++◌, Option, option_to_list, refl, sym, ◌∙◌, ap, subst, arith, append_assoc, append-nil}
use Rattle.std.specs.List.{slice_index}
use Rattle.std.proofs.lemmas.List.{map-append}
use Rattle.pages.specs.declared.access.Store.{Store}
use Rattle.pages.specs.Memory.{IsBytes, after}
use Rattle.pages.proofs.StoreLaws.{bytes_after}
use Rattle.round_schedule.specs.declared.access.Access.{Access}
use Rattle.round_schedule.specs.declared.access.Stepped.{Stepped}
use Rattle.round_schedule.specs.declared.access.Stepped.TheVariants.{Done, Waits, Stopped}
use Rattle.round_schedule.specs.declared.event.Event.{Event}
use Rattle.round_schedule.specs.declared.event.Phase.{Phase}
use Rattle.round_schedule.specs.declared.event.Phase.TheVariants.{Parallel, Serial}
use Rattle.round_schedule.specs.Events.{event_of, events_of}
use Rattle.round_schedule.specs.Held.{held}
use Rattle.round_schedule.specs.Schedule.{HartRound, Progress, State, Turn, Words, all_stores, began, by_answer, committed, ended, events_from, first_or_zero, hart_round_of, hart_rounds, joined, next_of, opening_state, rest_of, round_from, round_of, run_of, serial_from, serial_next, turn_from, turn_of, turned, went}
use Rattle.round_schedule.specs.Sound.{Sound, TracesAreRoundTraces}
use Rattle.round_schedule.proofs.Folds.{byte_none}
use Rattle.round_schedule.proofs.Local.{every, none_right, round_trace_from}
use Rattle.round_schedule.proofs.Phases.{Between, Busy, Ready, Serving, Waiting, begin, begin_turn, close_round, commit_round, finish, finish_turn, open_round, step_parallel, step_serial}

-- the events of one list of accesses after another
pub events_of-append : (n i : ℕ) (s : Phase) (xs ys : List Access) → events_of n i s (xs ++ ys) ≡ events_of n i s xs ++ events_of n i s ys
events_of-append n i s xs ys = map-append (event_of n i s) xs ys

module _ {H C : Type 0} (w : Words H C) (sound : Sound w) (opening : ℕ → ℕ) (budget : ℕ) where
  -- hart i is as far as this in its part of the round, after the trace t
  BusyAt : List ℕ → ℕ → ℕ → List Event → List Store → Progress H → Type 0
  BusyAt bs n i t K p = Busy opening budget bs n i (t ++ events_of n i Parallel p.accesses) K p.stores

  round_went : (bs : List ℕ) (n i : ℕ) (t : List Event) (K : List Store) (p : Progress H) (a : Option Access) → (next_of w bs p).answer ≡ Done a →
      BusyAt bs n i t K p → BusyAt bs n i t K (went p (next_of w bs p) a)
  unfolding BusyAt
  round_went bs n i t K p a is b =
      let more : t ++ events_of n i Parallel (p.accesses ++ option_to_list a) ≡ (t ++ events_of n i Parallel p.accesses) ++ events_of n i Parallel (option_to_list a) =
      ap (λ (u : List Event). t ++ u) (events_of-append n i Parallel p.accesses (option_to_list a)) ∙ sym (append_assoc t (events_of n i Parallel p.accesses) (events_of n i Parallel (option_to_list a))) in
      subst (λ (u : List Event). Busy opening budget bs n i u K (p.stores ++ (next_of w bs p).stores)) (sym more)
      (step_parallel opening budget bs n i (t ++ events_of n i Parallel p.accesses) K p.stores a (next_of w bs p).stores
      (sound.step_agrees p.hart (after bs p.stores) a (bytes_after bs p.stores b.bytes) is) (sound.step_parallel p.hart (after bs p.stores) a is) b)

  round_answered : (bs : List ℕ) (n i : ℕ) (t : List Event) (K : List Store) (p : Progress H) (f : Progress H → HartRound H) (y : Stepped) → (next_of w bs p).answer ≡ y →
      ((q : Progress H) → BusyAt bs n i t K q → BusyAt bs n i t K (f q).last) →
      BusyAt bs n i t K p → BusyAt bs n i t K (by_answer y p (next_of w bs p) f).last
  unfolding BusyAt
  round_answered bs n i t K p f (Done a) is rest b = rest (went p (next_of w bs p) a) (round_went bs n i t K p a is b)
  round_answered bs n i t K p f Waits is rest b = b
  round_answered bs n i t K p f (Stopped code) is rest b = b

  round_stopped : (bs : List ℕ) (n i : ℕ) (t : List Event) (K : List Store) (p : Progress H) (q : HartRound H) (s : Bool) →
      BusyAt bs n i t K p → BusyAt bs n i t K q.last → BusyAt bs n i t K (if s then ended p false else q).last
  round_stopped bs n i t K p q true b c = b
  round_stopped bs n i t K p q false b c = c

  round_keeps : (bs : List ℕ) (n i : ℕ) (t : List Event) (K : List Store) (k : ℕ) (p : Progress H) → BusyAt bs n i t K p → BusyAt bs n i t K (round_from w bs k p).last
  unfolding round_from
  round_keeps bs n i t K zero p b = b
  round_keeps bs n i t K (suc k) p b =
      round_stopped bs n i t K p (by_answer (next_of w bs p).answer p (next_of w bs p) (round_from w bs k)) (w.stopped p.hart) b
      (round_answered bs n i t K p (round_from w bs k) (next_of w bs p).answer refl (round_keeps bs n i t K k) b)

  one_round : (bs : List ℕ) (n i : ℕ) (t : List Event) (K : List Store) (q : ℕ) (h : H) → Ready opening budget bs n i t K →
      Ready opening budget bs n (suc i) (t ++ events_of n i Parallel (hart_round_of w bs q h).last.accesses) (K ++ (hart_round_of w bs q h).last.stores)
  unfolding BusyAt
  one_round bs n i t K q h r =
      finish opening budget bs n i (t ++ events_of n i Parallel (hart_round_of w bs q h).last.accesses) K (hart_round_of w bs q h).last.stores
      (round_keeps bs n i t K q (began h) (subst (λ (u : List Event). Busy opening budget bs n i u K []) (sym (append-nil t)) (begin opening budget bs n i t K r)))

  rounds_keep : (bs : List ℕ) (n i : ℕ) (t : List Event) (K : List Store) (qs : List ℕ) (hs : List H) → Ready opening budget bs n i t K →
      (m : ℕ) × Ready opening budget bs n m (t ++ events_from n i (hart_rounds w bs qs hs)) (K ++ all_stores (hart_rounds w bs qs hs))
  rounds_keep bs n i t K qs [] r =
      (i, subst (λ (u : List Event). Ready opening budget bs n i u (K ++ [])) (sym (append-nil t)) (subst (λ (v : List Store). Ready opening budget bs n i t v) (sym (append-nil K)) r))
  rounds_keep bs n i t K qs (h ∷ hs) r =
      let one : HartRound H = hart_round_of w bs (first_or_zero qs) h in
      let es : List Event = events_of n i Parallel one.last.accesses in
      let rest : (m : ℕ) × Ready opening budget bs n m ((t ++ es) ++ events_from n (suc i) (hart_rounds w bs (rest_of qs) hs)) ((K ++ one.last.stores) ++ all_stores (hart_rounds w bs (rest_of qs) hs)) =
      rounds_keep bs n (suc i) (t ++ es) (K ++ one.last.stores) (rest_of qs) hs (one_round bs n i t K (first_or_zero qs) h r) in (
        rest.0,
        subst (λ (u : List Event). Ready opening budget bs n rest.0 u (K ++ (one.last.stores ++ all_stores (hart_rounds w bs (rest_of qs) hs)))) (append_assoc t es (events_from n (suc i) (hart_rounds w bs (rest_of qs) hs)))
            (subst (λ (v : List Store). Ready opening budget bs n rest.0 ((t ++ es) ++ events_from n (suc i) (hart_rounds w bs (rest_of qs) hs)) v) (append_assoc K one.last.stores (all_stores (hart_rounds w bs (rest_of qs) hs))) rest.1),
      )

  -- ---- the serial phase

  turn_answered : (n i k : ℕ) (p : Turn H C) (f : Turn H C → Turn H C) (y : Stepped) → (serial_next w n i p).answer ≡ y →
      ((q : Turn H C) → Serving opening budget n i k q.trace q.bytes → Waiting opening budget n (suc i) (f q).trace (f q).bytes) →
      Serving opening budget n i (suc k) p.trace p.bytes →
      Waiting opening budget n (suc i) (turned n i y p (serial_next w n i p) f).trace (turned n i y p (serial_next w n i p) f).bytes
  turn_answered n i k p f (Done a) is rest s =
      rest (record { hart = (serial_next w n i p).hart; bytes = after p.bytes (serial_next w n i p).stores; console = (serial_next w n i p).console; trace = p.trace ++ events_of n i Serial (option_to_list a) })
      (step_serial opening budget n i k p.trace p.bytes a (serial_next w n i p).stores
      (sound.serial_agrees n p.hart p.bytes p.console (held i p.trace) a s.bytes is) (sound.serial_reserved n p.hart p.bytes p.console (held i p.trace) a is) s)
  turn_answered n i k p f Waits is rest s = finish_turn opening budget n i (suc k) p.trace p.bytes s
  turn_answered n i k p f (Stopped code) is rest s = finish_turn opening budget n i (suc k) p.trace p.bytes s

  turn_stopped : (n i : ℕ) (p q : Turn H C) (s : Bool) → Waiting opening budget n i p.trace p.bytes → Waiting opening budget n i q.trace q.bytes →
      Waiting opening budget n i (if s then p else q).trace (if s then p else q).bytes
  turn_stopped n i p q true a b = a
  turn_stopped n i p q false a b = b

  turn_keeps : (n i k : ℕ) (p : Turn H C) → Serving opening budget n i k p.trace p.bytes → Waiting opening budget n (suc i) (turn_from w n i k p).trace (turn_from w n i k p).bytes
  unfolding turn_from
  turn_keeps n i zero p s = finish_turn opening budget n i zero p.trace p.bytes s
  turn_keeps n i (suc k) p s =
      turn_stopped n (suc i) p (turned n i (serial_next w n i p).answer p (serial_next w n i p) (turn_from w n i k)) (w.stopped p.hart)
      (finish_turn opening budget n i (suc k) p.trace p.bytes s) (turn_answered n i k p (turn_from w n i k) (serial_next w n i p).answer refl (turn_keeps n i k) s)

  within_budget : (b : Bool) → (if b then budget else 0) ≤ budget
  within_budget true = omega arith
  within_budget false = omega arith

  serial_keeps : (i : ℕ) (rs : List (HartRound H)) (s : State H C) → Waiting opening budget s.rounds i s.trace s.bytes →
      Between opening budget s.rounds (serial_from w budget i rs s).trace (serial_from w budget i rs s).bytes × ((serial_from w budget i rs s).rounds ≡ s.rounds)
  serial_keeps i [] s h = (close_round opening budget s.rounds i s.trace s.bytes h, refl)
  serial_keeps i (r ∷ rs) s h =
      serial_keeps (suc i) rs (joined s (turn_of w budget s i r))
      (turn_keeps s.rounds i (if r.waits then budget else 0) (record { hart = r.last.hart; bytes = s.bytes; console = s.console; trace = s.trace })
      (begin_turn opening budget s.rounds i (if r.waits then budget else 0) s.trace s.bytes (within_budget r.waits) h))

  -- ---- rounds and runs

  round_kept : (quotas : ℕ → List ℕ) (s : State H C) → Between opening budget s.rounds s.trace s.bytes →
      Between opening budget (round_of w budget quotas s).rounds (round_of w budget quotas s).trace (round_of w budget quotas s).bytes
  unfolding round_of
  round_kept quotas s b =
      let rs : List (HartRound H) = hart_rounds w s.bytes (quotas s.rounds) s.harts in
      let ready : (m : ℕ) × Ready opening budget s.bytes (s.rounds + 1) m (s.trace ++ events_from (s.rounds + 1) 0 rs) ([] ++ all_stores rs) =
      rounds_keep s.bytes (s.rounds + 1) 0 s.trace [] (quotas s.rounds) s.harts (open_round opening budget s.rounds s.trace s.bytes b) in
      let done : Between opening budget (s.rounds + 1) (serial_from w budget 0 rs (committed s rs)).trace (serial_from w budget 0 rs (committed s rs)).bytes
      × ((serial_from w budget 0 rs (committed s rs)).rounds ≡ s.rounds + 1) =
      serial_keeps 0 rs (committed s rs) (commit_round opening budget s.bytes (s.rounds + 1) ready.0 (s.trace ++ events_from (s.rounds + 1) 0 rs) (all_stores rs) ready.1) in
      subst (λ (m : ℕ). Between opening budget m (serial_from w budget 0 rs (committed s rs)).trace (serial_from w budget 0 rs (committed s rs)).bytes) (sym done.1) done.0

  run_kept : (quotas : ℕ → List ℕ) (n : ℕ) (s : State H C) → Between opening budget s.rounds s.trace s.bytes →
      Between opening budget (run_of w budget quotas n s).rounds (run_of w budget quotas n s).trace (run_of w budget quotas n s).bytes
  unfolding run_of
  run_kept quotas zero s b = b
  run_kept quotas (suc n) s b = run_kept quotas n (round_of w budget quotas s) (round_kept quotas s b)

pub before_rounds : (opening : ℕ → ℕ) (budget : ℕ) (bs : List ℕ) → ((x : ℕ) → opening x ≡ slice_index bs x) → IsBytes bs → Between opening budget 0 [] bs
before_rounds opening budget bs same small = record {
  bytes = small;
  grown = none_right opening budget;
  below = λ k d l. absurd (omega (arith, l));
  memory = λ x l. byte_none every (opening x) x ∙ same x;
}

pub traces : (H C : Type 0) → TracesAreRoundTraces H C
traces H C = λ w sound budget quotas n hs bs c small.
    round_trace_from (run_of w budget quotas n (opening_state hs bs c)).trace (λ x. slice_index bs x) budget
    (run_kept w sound (λ x. slice_index bs x) budget quotas n (opening_state hs bs c) (before_rounds (λ x. slice_index bs x) budget bs (λ x. refl) small)).grown
