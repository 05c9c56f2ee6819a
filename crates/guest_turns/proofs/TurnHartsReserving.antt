-- The harts along the turns over a list of reservations are those of the run.
use Rattle.std.proofs.Common.{◌≡◌, ℕ, zero, suc, ◌+◌, ◌<◌, ◌≤◌, false, if◌then◌else◌, List, [], ◌∷◌, ◌++◌, length, Option, option_to_list, refl, sym, ◌∙◌, ap, subst, arith, append_assoc, append-nil}
use Rattle.std.proofs.lemmas.List.{length_push}
use Rattle.pages.specs.Memory.{IsBytes, after}
use Rattle.round_schedule.specs.declared.access.Stepped.{Stepped}
use Rattle.round_schedule.specs.declared.access.Stepped.TheVariants.{Done, Waits, Stopped}
use Rattle.round_schedule.specs.declared.access.Access.{Access}
use Rattle.round_schedule.specs.declared.event.Event.{Event}
use Rattle.round_schedule.specs.declared.event.Phase.TheVariants.{Serial}
use Rattle.round_schedule.specs.declared.span.Span.{Span}
use Rattle.round_schedule.specs.ByReservations.{Reserving, reserving_phase_of}
use Rattle.round_schedule.specs.Events.{events_of}
use Rattle.round_schedule.specs.Past.{by_turn, gone, turns_from}
use Rattle.round_schedule.specs.Schedule.{HartRound, SerialOutcome, Turn, Words, events_from, hart_rounds, serial_next}
use Rattle.round_schedule.specs.Sound.{Sound}
use Rattle.round_schedule.specs.ReservingTurn.{SerialByReservations, ReservingPhase, ReservingTurn, log_events, reserving_phase_joined, reserving_turn_from, reserving_turn_next, reserving_turn_of, reserving_turn_taken, told}
use Rattle.round_schedule.specs.Reservations.{Commits, Tied}
use Rattle.round_schedule.proofs.Machines.{commits}
use Rattle.round_schedule.proofs.PastEnds.{rounds_length}
use Rattle.round_schedule.proofs.Runs.{events_of-append}
use Rattle.round_schedule.proofs.ReservingTurns.{serial_by_reservations, turn_size, turn_tied}
use Rattle.round_schedule.proofs.ReservationsTied.{commit_ties}
use Rattle.serial_phase.specs.Asking.{reserving_turn_went}
use Rattle.serial_phase.proofs.Words.{choose, pair, picked_not}
use Rattle.guest_turns.specs.ReservingTurnHarts.{by_reserving_answer, reserving_turns_from, turns_in_reserving_phase}
use Rattle.guest_turns.specs.TurnHarts.{turns_in_phase, turns_in_round}

-- ---- a turn

module _ {H C : Type 0} (w : Words H C) (t : List Event) (n i : ℕ) where
  -- the turn in a run, after the trace t
  abbrev turn_told : ReservingTurn H C → Turn H C
  turn_told d = record { hart = d.hart; bytes = d.bytes; console = d.console; trace = t ++ events_of n i Serial d.log }

  one_went : (d : ReservingTurn H C) (a : Option Access) → w.stopped d.hart ≡ false → (reserving_turn_next w n i d).answer ≡ Done a →
      reserving_turn_from w n i 1 d ≡ reserving_turn_went i d (reserving_turn_next w n i d) a
  unfolding reserving_turn_from
  one_went d a e f =
      picked_not (w.stopped d.hart) d _ e
      ∙ ap (λ (y : Stepped). reserving_turn_taken i y d (reserving_turn_next w n i d) (reserving_turn_from w n i 0)) f

  told_went : (d : ReservingTurn H C) (o : SerialOutcome H C) (a : Option Access) → turn_told (reserving_turn_went i d o a) ≡ gone n i a (turn_told d) o
  told_went d o a =
      ap (λ (u : List Event). record { hart = o.hart; bytes = after d.bytes o.stores; console = o.console; trace = u })
      (ap (λ (u : List Event). t ++ u) (events_of-append n i Serial d.log (option_to_list a)) ∙ sym (append_assoc t (events_of n i Serial d.log) (events_of n i Serial (option_to_list a))))

  same_next : (d : ReservingTurn H C) → Tied d.reservations (t ++ events_of n i Serial d.log) → i < length d.reservations → reserving_turn_next w n i d ≡ serial_next w n i (turn_told d)
  same_next d tied l = ap (λ (r : Option Span). w.serial_step n d.hart d.bytes d.console r) (tied.each i l)

  by_answer : (y : Stepped) (d : ReservingTurn H C) (o : SerialOutcome H C) (f : ReservingTurn H C → List H) (g : Turn H C → List H) →
      ((a : Option Access) → y ≡ Done a → f (reserving_turn_went i d o a) ≡ g (gone n i a (turn_told d) o)) → by_reserving_answer i y d o f ≡ by_turn n i y (turn_told d) o g
  by_answer (Done a) d o f g e = ap (λ (hs : List H). d.hart ∷ hs) (e a refl)
  by_answer Waits d o f g e = refl
  by_answer (Stopped code) d o f g e = refl

  pub turn_harts : (k : ℕ) (d : ReservingTurn H C) → Tied d.reservations (t ++ events_of n i Serial d.log) → i < length d.reservations → reserving_turns_from w n i k d ≡ turns_from w n i k (turn_told d)
  unfolding reserving_turns_from turns_from
  turn_harts zero d tied l = refl
  turn_harts (suc k) d tied l =
      choose (λ (x y : List H). x ≡ y) (w.stopped d.hart) (w.stopped d.hart) _ _ _ _ refl refl
      (λ e. by_answer (reserving_turn_next w n i d).answer d (reserving_turn_next w n i d) (reserving_turns_from w n i k) (turns_from w n i k)
      (λ a f.
      let x : ReservingTurn H C = reserving_turn_went i d (reserving_turn_next w n i d) a in
      let one : reserving_turn_from w n i 1 d ≡ x = one_went d a e f in
      turn_harts k x
      (subst (λ (y : ReservingTurn H C). Tied y.reservations (t ++ events_of n i Serial y.log)) one (turn_tied w t n i 1 d tied l))
      (omega (arith, l, turn_size w t n i 1 d tied l, ap (λ (y : ReservingTurn H C). length y.reservations) one))
      ∙ ap (turns_from w n i k) (told_went d (reserving_turn_next w n i d) a))
      ∙ ap (λ (o : SerialOutcome H C). by_turn n i o.answer (turn_told d) o (turns_from w n i k)) (same_next d tied l))

-- ---- the turns of a phase

module _ {H C : Type 0} (w : Words H C) (budget n : ℕ) (t : List Event) where
  phase_harts : (i : ℕ) (rs : List (HartRound H)) (s : ReservingPhase H C) → Tied s.reservations (t ++ log_events n 0 s.log) → length s.log ≡ i → i + length rs ≤ length s.reservations →
      turns_in_reserving_phase w budget n i rs s ≡ turns_in_phase w budget i rs (told t n s)
  phase_harts i [] s tied count l = refl
  phase_harts i (r ∷ rs) s tied count l =
      let front : List Event = t ++ log_events n 0 s.log in
      let start : ReservingTurn H C = record { hart = r.last.hart; bytes = s.bytes; console = s.console; reservations = s.reservations; log = [] } in
      let k : ℕ = if r.waits then budget else 0 in
      let d : ReservingTurn H C = reserving_turn_of w budget n s i r.last.hart r.waits in
      let one : SerialByReservations w budget n i (r ∷ []) t s = serial_by_reservations H C w budget n i (r ∷ []) t s tied count (omega (arith, l)) in
      pair (λ (x : List H) (y : List (List H)). x ∷ y) _ _ _ _
      (turn_harts w front n i k start (subst (Tied s.reservations) (sym (append-nil front)) tied) (omega (arith, l))
      ∙ ap (λ (u : List Event). turns_from w n i k (record { hart = r.last.hart; bytes = s.bytes; console = s.console; trace = u })) (append-nil front))
      (phase_harts (suc i) rs (reserving_phase_joined s d) one.tied (omega (arith, length_push s.log d.log, count)) (omega (arith, l, one.size))
      ∙ ap (turns_in_phase w budget (suc i) rs) (sym one.same))

-- ---- those of the next round

pub round_harts : {H C : Type 0} (w : Words H C) (budget : ℕ) (quotas : ℕ → List ℕ) (m : Reserving H C) → Sound w → IsBytes m.state.bytes → Tied m.reservations m.state.trace → length m.reservations ≡ length m.state.harts →
    turns_in_reserving_phase w budget (m.state.rounds + 1) 0 (hart_rounds w m.state.bytes (quotas m.state.rounds) m.state.harts) (reserving_phase_of m (hart_rounds w m.state.bytes (quotas m.state.rounds) m.state.harts))
    ≡ turns_in_round w budget quotas m.state
unfolding turns_in_round
round_harts {H = H} {C = C} w budget quotas m sound small tied size =
    let rs : List (HartRound H) = hart_rounds w m.state.bytes (quotas m.state.rounds) m.state.harts in
    let n : ℕ = m.state.rounds + 1 in
    let t : List Event = m.state.trace ++ events_from n 0 rs in
    let s : ReservingPhase H C = reserving_phase_of m rs in
    let committed_size : Commits rs m.reservations s.reservations = commits rs m.reservations in
    let tied_after : Tied s.reservations t = commit_ties w sound m.state.bytes small n (quotas m.state.rounds) m.state.harts m.reservations s.reservations m.state.trace tied committed_size in
    phase_harts w budget n t 0 rs s (subst (Tied s.reservations) (sym (append-nil t)) tied_after) refl
    (omega (arith, rounds_length w m.state.bytes (quotas m.state.rounds) m.state.harts, committed_size.size, size))
    ∙ ap (λ (u : List Event). turns_in_phase w budget 0 rs (record { harts = []; bytes = s.bytes; console = s.console; trace = u; rounds = n })) (append-nil t)
