-- Whether a hart asks, over a list of reservations that is what the trace says.
use Rattle.std.proofs.Common.{◌≡◌, ℕ, zero, suc, ◌+◌, ◌<◌, ◌≤◌, ◌||◌, Bool, true, false, if◌then◌else◌, List, [], ◌∷◌, ◌++◌, length, Option, option_to_list, refl, sym, ◌∙◌, ap, subst, arith, append_assoc, append-nil}
use Rattle.pages.specs.Memory.{IsBytes, after}
use Rattle.round_schedule.specs.declared.access.Access.{Access}
use Rattle.round_schedule.specs.declared.access.Stepped.{Stepped}
use Rattle.round_schedule.specs.declared.access.Stepped.TheVariants.{Done, Waits, Stopped}
use Rattle.round_schedule.specs.declared.event.Event.{Event}
use Rattle.round_schedule.specs.declared.event.Phase.TheVariants.{Serial}
use Rattle.round_schedule.specs.declared.span.Span.{Span}
use Rattle.round_schedule.specs.ByReservations.{Reserving, committed_reservations, reserving_phase_of}
use Rattle.round_schedule.specs.Events.{events_of}
use Rattle.round_schedule.specs.Schedule.{HartRound, SerialOutcome, State, Turn, Words, committed, events_from, hart_rounds, joined, rest_of, serial_next, turn_from, turn_went}
use Rattle.round_schedule.specs.Sound.{Sound}
use Rattle.round_schedule.specs.ReservingTurn.{ReservingPhase, ReservingTurn, log_events, reserving_phase_joined, reserving_turn_from, reserving_turn_next, reserving_turn_taken, told}
use Rattle.round_schedule.specs.Reservations.{Commits, Tied}
use Rattle.round_schedule.proofs.Machines.{commits}
use Rattle.round_schedule.proofs.Runs.{events_of-append}
use Rattle.round_schedule.proofs.ReservingTurns.{turn_same, turn_size, turn_tied}
use Rattle.round_schedule.proofs.ReservationsTied.{commit_ties}
use Rattle.serial_phase.specs.Asking.{AskingByReservations, asks_after, asks_in_phase, asks_in_round, asks_in_reserving_phase, asks_in_reserving_round, asks_in_reserving_turn, asks_in_turn, reserving_turn_went}
use Rattle.serial_phase.proofs.Words.{choose, pair, picked_not}

after_same : (y : Stepped) (f g : Option Access → Bool) → ((a : Option Access) → y ≡ Done a → f a ≡ g a) → asks_after y f ≡ asks_after y g
after_same (Done a) f g e = e a refl
after_same Waits f g e = refl
after_same (Stopped code) f g e = refl

module _ {H C : Type 0} (w : Words H C) (asks : H → List ℕ → Bool) (t : List Event) (n i : ℕ) where
  -- the turn in a run, after the trace t
  abbrev turn_told : ReservingTurn H C → Turn H C
  turn_told d = record { hart = d.hart; bytes = d.bytes; console = d.console; trace = t ++ events_of n i Serial d.log }

  one_went : (d : ReservingTurn H C) (a : Option Access) → w.stopped d.hart ≡ false → (reserving_turn_next w n i d).answer ≡ Done a →
      reserving_turn_from w n i 1 d ≡ reserving_turn_went i d (reserving_turn_next w n i d) a
  unfolding reserving_turn_from
  one_went d a e f =
      picked_not (w.stopped d.hart) d _ e
      ∙ ap (λ (y : Stepped). reserving_turn_taken i y d (reserving_turn_next w n i d) (reserving_turn_from w n i 0)) f

  told_went : (d : ReservingTurn H C) (o : SerialOutcome H C) (a : Option Access) → turn_told (reserving_turn_went i d o a) ≡ turn_went n i (turn_told d) o a
  told_went d o a =
      ap (λ (u : List Event). record { hart = o.hart; bytes = after d.bytes o.stores; console = o.console; trace = u })
      (ap (λ (u : List Event). t ++ u) (events_of-append n i Serial d.log (option_to_list a)) ∙ sym (append_assoc t (events_of n i Serial d.log) (events_of n i Serial (option_to_list a))))

  same_next : (d : ReservingTurn H C) → Tied d.reservations (t ++ events_of n i Serial d.log) → i < length d.reservations → reserving_turn_next w n i d ≡ serial_next w n i (turn_told d)
  same_next d tied l = ap (λ (r : Option Span). w.serial_step n d.hart d.bytes d.console r) (tied.each i l)

  pub turn_asks : (k : ℕ) (d : ReservingTurn H C) → Tied d.reservations (t ++ events_of n i Serial d.log) → i < length d.reservations →
      asks_in_reserving_turn w asks n i k d ≡ asks_in_turn w asks n i k (turn_told d)
  unfolding asks_in_reserving_turn asks_in_turn
  turn_asks zero d tied l = refl
  turn_asks (suc k) d tied l =
      choose (λ (x y : Bool). x ≡ y) (w.stopped d.hart) (w.stopped d.hart) _ _ _ _ refl refl
      (λ e. ap (λ (x : Bool). asks d.hart d.bytes || x)
      (after_same (reserving_turn_next w n i d).answer (λ a. asks_in_reserving_turn w asks n i k (reserving_turn_went i d (reserving_turn_next w n i d) a))
      (λ a. asks_in_turn w asks n i k (turn_went n i (turn_told d) (reserving_turn_next w n i d) a))
      (λ a f.
      let x : ReservingTurn H C = reserving_turn_went i d (reserving_turn_next w n i d) a in
      let one : reserving_turn_from w n i 1 d ≡ x = one_went d a e f in
      turn_asks k x
      (subst (λ (y : ReservingTurn H C). Tied y.reservations (t ++ events_of n i Serial y.log)) one (turn_tied w t n i 1 d tied l))
      (omega (arith, l, turn_size w t n i 1 d tied l, ap (λ (y : ReservingTurn H C). length y.reservations) one))
      ∙ ap (asks_in_turn w asks n i k) (told_went d (reserving_turn_next w n i d) a))
      ∙ ap (λ (o : SerialOutcome H C). asks_after o.answer (λ a. asks_in_turn w asks n i k (turn_went n i (turn_told d) o a))) (same_next d tied l)))

log_events-push : (n i : ℕ) (ls : List (List Access)) (l : List Access) → log_events n i (ls ++ l ∷ []) ≡ log_events n i ls ++ events_of n (i + length ls) Serial l
log_events-push n i [] l = append-nil (events_of n i Serial l) ∙ ap (λ (k : ℕ). events_of n k Serial l) (omega arith)
log_events-push n i (m ∷ ls) l =
    ap (λ (u : List Event). events_of n i Serial m ++ u) (log_events-push n (suc i) ls l ∙ ap (λ (k : ℕ). log_events n (suc i) ls ++ events_of n k Serial l) (omega arith))
    ∙ sym (append_assoc (events_of n i Serial m) (log_events n (suc i) ls) (events_of n (i + suc (length ls)) Serial l))

module _ {H C : Type 0} (w : Words H C) (asks : H → List ℕ → Bool) (budget n : ℕ) (t : List Event) where
  phase_asks : (i : ℕ) (rs : List (HartRound H)) (s : ReservingPhase H C) → Tied s.reservations (t ++ log_events n 0 s.log) → length s.log ≡ i → i + length rs ≤ length s.reservations →
      asks_in_reserving_phase w asks budget n i rs s ≡ asks_in_phase w asks budget i rs (told t n s)
  phase_asks i [] s tied count l = refl
  phase_asks i (r ∷ rs) s tied count l =
      let front : List Event = t ++ log_events n 0 s.log in
      let start : ReservingTurn H C = record { hart = r.last.hart; bytes = s.bytes; console = s.console; reservations = s.reservations; log = [] } in
      let first : Turn H C = record { hart = r.last.hart; bytes = s.bytes; console = s.console; trace = front } in
      let k : ℕ = if r.waits then budget else 0 in
      let d : ReservingTurn H C = reserving_turn_from w n i k start in
      let low : i < length s.reservations = omega (arith, l) in
      let begun : Tied s.reservations (front ++ []) = subst (Tied s.reservations) (sym (append-nil front)) tied in
      let at_front : record { hart = r.last.hart; bytes = s.bytes; console = s.console; trace = front ++ [] } ≡ first =
      ap (λ (v : List Event). record { hart = r.last.hart; bytes = s.bytes; console = s.console; trace = v }) (append-nil front) in
      let u : Turn H C = turn_from w n i k first in
      let same : u ≡ record { hart = d.hart; bytes = d.bytes; console = d.console; trace = front ++ events_of n i Serial d.log } =
      turn_same w front n i k start first (sym at_front) begun low in
      let after_it : ReservingPhase H C = reserving_phase_joined s d in
      let trace : front ++ events_of n i Serial d.log ≡ t ++ log_events n 0 (s.log ++ d.log ∷ []) =
      append_assoc t (log_events n 0 s.log) (events_of n i Serial d.log)
      ∙ ap (λ (v : List Event). t ++ v) (ap (λ (j : ℕ). log_events n 0 s.log ++ events_of n j Serial d.log) (omega (arith, count)) ∙ sym (log_events-push n 0 s.log d.log)) in
      let rest : asks_in_reserving_phase w asks budget n (suc i) rs after_it ≡ asks_in_phase w asks budget (suc i) rs (told t n after_it) =
      phase_asks (suc i) rs after_it (subst (Tied d.reservations) trace (turn_tied w front n i k start begun low))
      (length_push s.log d.log ∙ ap (λ (j : ℕ). suc j) count) (omega (arith, l, turn_size w front n i k start begun low)) in
      let joins : joined (told t n s) u ≡ told t n after_it =
      ap (joined (told t n s)) same
      ∙ ap (λ (v : List Event). record { harts = s.harts ++ d.hart ∷ []; bytes = d.bytes; console = d.console; trace = v; rounds = n }) trace in
      pair (λ (x y : Bool). x || y) _ _ _ _
      (turn_asks w asks front n i k start begun low ∙ ap (asks_in_turn w asks n i k) at_front)
      (rest ∙ ap (asks_in_phase w asks budget (suc i) rs) (sym joins))
    where
      length_push : {X : Type 0} (xs : List X) (x : X) → length (xs ++ x ∷ []) ≡ suc (length xs)
      length_push [] x = refl
      length_push (y ∷ ys) x = ap (λ (j : ℕ). suc j) (length_push ys x)

length-rounds : {H C : Type 0} (w : Words H C) (bs qs : List ℕ) (hs : List H) → length (hart_rounds w bs qs hs) ≡ length hs
length-rounds w bs qs [] = refl
length-rounds w bs qs (h ∷ hs) = ap (λ (n : ℕ). suc n) (length-rounds w bs (rest_of qs) hs)

round_asks : {H C : Type 0} (w : Words H C) (asks : H → List ℕ → Bool) (budget : ℕ) (quotas : ℕ → List ℕ) (m : Reserving H C) → Sound w → IsBytes m.state.bytes → Tied m.reservations m.state.trace →
    length m.reservations ≡ length m.state.harts → asks_in_reserving_round w asks budget quotas m ≡ asks_in_round w asks budget quotas m.state
unfolding asks_in_reserving_round asks_in_round
round_asks {H = H} {C = C} w asks budget quotas m sound small tied size =
    let rs : List (HartRound H) = hart_rounds w m.state.bytes (quotas m.state.rounds) m.state.harts in
    let n : ℕ = m.state.rounds + 1 in
    let t : List Event = m.state.trace ++ events_from n 0 rs in
    let s : ReservingPhase H C = reserving_phase_of m rs in
    let committed_size : Commits rs m.reservations s.reservations = commits rs m.reservations in
    let tied_after : Tied s.reservations t = commit_ties w sound m.state.bytes small n (quotas m.state.rounds) m.state.harts m.reservations s.reservations m.state.trace tied committed_size in
    phase_asks w asks budget n t 0 rs s (subst (Tied s.reservations) (sym (append-nil t)) tied_after) refl
    (omega (arith, length-rounds w m.state.bytes (quotas m.state.rounds) m.state.harts, committed_size.size, size))
    ∙ ap (λ (u : List Event). asks_in_phase w asks budget 0 rs (record { harts = []; bytes = s.bytes; console = s.console; trace = u; rounds = n })) (append-nil t)

pub asking_by_reservations : (H C : Type 0) → AskingByReservations H C
asking_by_reservations H C = λ w asks budget quotas m sound small tied size. round_asks w asks budget quotas m sound small tied size
