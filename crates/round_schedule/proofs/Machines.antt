-- Rounds and runs over a list of reservations are those over the trace.
use Rattle.std.proofs.Common.{◌≡◌, ℕ, zero, suc, ◌+◌, ◌<◌, Bool, true, false, if◌then◌else◌, List, [], ◌∷◌, ◌++◌, length, Option, None, refl, sym, ◌∙◌, ap, subst, arith, append-nil}
use Rattle.std.proofs.lemmas.List.{get_or-replicate, length-replicate}
use Rattle.std.specs.List.{slice_index}
use Rattle.pages.specs.Memory.{IsBytes}
use Rattle.pages.proofs.StoreLaws.{bytes_after}
use Rattle.round_schedule.specs.declared.access.Stepped.{Stepped}
use Rattle.round_schedule.specs.declared.access.Stepped.TheVariants.{Done, Waits, Stopped}
use Rattle.round_schedule.specs.declared.event.Event.{Event}
use Rattle.round_schedule.specs.declared.span.Span.{Span}
use Rattle.round_schedule.specs.ByReservations.{RoundByReservations, RoundsByReservations, RunsByReservations, Reserving, committed_reservations, reserving_phase_of, opening_reserving, reserving_round, reserving_run}
use Rattle.round_schedule.specs.ReservingTurn.{ReservingPhase, ReservingTurn, SerialByReservations, reserving_phase_from, reserving_phase_joined, reserving_turn_from, reserving_turn_next, reserving_turn_of, reserving_turn_taken}
use Rattle.round_schedule.specs.Held.{unless}
use Rattle.round_schedule.specs.RoundTrace.{IsRoundTrace}
use Rattle.round_schedule.specs.Schedule.{HartRound, SerialOutcome, State, Words, all_stores, events_from, hart_rounds, rest_of, round_of, run_of, serial_from}
use Rattle.round_schedule.specs.Sound.{Sound}
use Rattle.round_schedule.specs.Reservations.{Commits, Tied, covered_by_others, entry}
use Rattle.round_schedule.proofs.ReservingTurns.{serial_by_reservations}
use Rattle.round_schedule.proofs.Holding.{held_start}
use Rattle.round_schedule.proofs.Runs.{traces}
use Rattle.round_schedule.proofs.ReservationsTied.{commit_ties}

-- ---- the list after a commit

length-committed : {H : Type 0} (h : ℕ) (rs : List (HartRound H)) (reservations : List (Option Span)) → length (committed_reservations h rs reservations) ≡ length reservations
length-committed h rs [] = refl
length-committed h rs (r ∷ reservations) = ap (λ (n : ℕ). suc n) (length-committed (suc h) rs reservations)

entry-committed : {H : Type 0} (h : ℕ) (rs : List (HartRound H)) (reservations : List (Option Span)) (j k : ℕ) → j < length reservations → h + j ≡ k →
    entry (committed_reservations h rs reservations) j ≡ unless (covered_by_others k 0 rs) (entry reservations j)
entry-committed h rs [] j k l e = absurd (omega (arith, l))
entry-committed h rs (r ∷ reservations) zero k l e = ap (λ (n : ℕ). unless (covered_by_others n 0 rs) r) (omega (arith, e))
entry-committed h rs (r ∷ reservations) (suc j) k l e = entry-committed (suc h) rs reservations j k (omega (arith, l)) (omega (arith, e))

pub commits : {H : Type 0} (rs : List (HartRound H)) (reservations : List (Option Span)) → Commits rs reservations (committed_reservations 0 rs reservations)
commits rs reservations = record { size = length-committed 0 rs reservations; each = λ h l. entry-committed 0 rs reservations h h l (omega arith) }

length-hart_rounds : {H C : Type 0} (w : Words H C) (bs : List ℕ) (qs : List ℕ) (hs : List H) → length (hart_rounds w bs qs hs) ≡ length hs
length-hart_rounds w bs qs [] = refl
length-hart_rounds w bs qs (h ∷ hs) = ap (λ (n : ℕ). suc n) (length-hart_rounds w bs (rest_of qs) hs)

-- ---- harts and bytes after the serial phase

module _ {H C : Type 0} (w : Words H C) (budget n : ℕ) where
  length_push : {X : Type 0} (xs : List X) (x : X) → length (xs ++ x ∷ []) ≡ suc (length xs)
  length_push [] x = refl
  length_push (y ∷ ys) x = ap (λ (j : ℕ). suc j) (length_push ys x)

  counted_harts : (i : ℕ) (rs : List (HartRound H)) (s : ReservingPhase H C) → length (reserving_phase_from w budget n i rs s).harts ≡ length s.harts + length rs
  counted_harts i [] s = omega arith
  counted_harts i (r ∷ rs) s =
      let d : ReservingTurn H C = reserving_turn_of w budget n s i r.last.hart r.waits in
      omega (arith, counted_harts (suc i) rs (reserving_phase_joined s d), length_push s.harts d.hart)

  reserving_turn_answered : (i k : ℕ) (p : ReservingTurn H C) (y : Stepped) (o : SerialOutcome H C) → ((q : ReservingTurn H C) → IsBytes q.bytes → IsBytes (reserving_turn_from w n i k q).bytes) → IsBytes p.bytes →
      IsBytes (reserving_turn_taken i y p o (reserving_turn_from w n i k)).bytes
  reserving_turn_answered i k p (Done a) o rest small = rest _ (bytes_after p.bytes o.stores small)
  reserving_turn_answered i k p Waits o rest small = small
  reserving_turn_answered i k p (Stopped code) o rest small = small

  reserving_turn_stopped : (p d : ReservingTurn H C) (s : Bool) → IsBytes p.bytes → IsBytes d.bytes → IsBytes (if s then p else d).bytes
  reserving_turn_stopped p d true a b = a
  reserving_turn_stopped p d false a b = b

  reserving_turn_bytes : (i k : ℕ) (p : ReservingTurn H C) → IsBytes p.bytes → IsBytes (reserving_turn_from w n i k p).bytes
  unfolding reserving_turn_from
  reserving_turn_bytes i zero p small = small
  reserving_turn_bytes i (suc k) p small =
      reserving_turn_stopped p (reserving_turn_taken i (reserving_turn_next w n i p).answer p (reserving_turn_next w n i p) (reserving_turn_from w n i k)) (w.stopped p.hart) small
      (reserving_turn_answered i k p (reserving_turn_next w n i p).answer (reserving_turn_next w n i p) (reserving_turn_bytes i k) small)

  counted_bytes : (i : ℕ) (rs : List (HartRound H)) (s : ReservingPhase H C) → IsBytes s.bytes → IsBytes (reserving_phase_from w budget n i rs s).bytes
  counted_bytes i [] s small = small
  counted_bytes i (r ∷ rs) s small =
      counted_bytes (suc i) rs (reserving_phase_joined s (reserving_turn_of w budget n s i r.last.hart r.waits))
      (reserving_turn_bytes i (if r.waits then budget else 0) (record { hart = r.last.hart; bytes = s.bytes; console = s.console; reservations = s.reservations; log = [] }) small)

-- ---- one round

round_meets : {H C : Type 0} (w : Words H C) → Sound w → (budget : ℕ) (quotas : ℕ → List ℕ) (m : Reserving H C) → IsBytes m.state.bytes → Tied m.reservations m.state.trace →
    length m.reservations ≡ length m.state.harts → RoundByReservations w budget quotas m
unfolding reserving_round round_of
round_meets {H = H} {C = C} w sound budget quotas m small tied size =
    let rs : List (HartRound H) = hart_rounds w m.state.bytes (quotas m.state.rounds) m.state.harts in
    let n : ℕ = m.state.rounds + 1 in
    let t : List Event = m.state.trace ++ events_from n 0 rs in
    let s : ReservingPhase H C = reserving_phase_of m rs in
    let many : length rs ≡ length m.state.harts = length-hart_rounds w m.state.bytes (quotas m.state.rounds) m.state.harts in
    let kept : length s.reservations ≡ length m.reservations = length-committed 0 rs m.reservations in
    let after_commit : Tied s.reservations t = commit_ties w sound m.state.bytes small n (quotas m.state.rounds) m.state.harts m.reservations s.reservations m.state.trace tied (commits rs m.reservations) in
    let law : SerialByReservations w budget n 0 rs t s = serial_by_reservations H C w budget n 0 rs t s (subst (Tied s.reservations) (sym (append-nil t)) after_commit) refl (omega (arith, many, kept, size)) in
    record {
      same = sym (ap (λ (u : List Event). serial_from w budget 0 rs (record { harts = []; bytes = s.bytes; console = s.console; trace = u; rounds = n })) (sym (append-nil t)) ∙ law.same);
      tied = law.tied;
      size = law.size ∙ kept;
      harts = omega (arith, counted_harts w budget n 0 rs s, many);
      bytes = counted_bytes w budget n 0 rs s (bytes_after m.state.bytes (all_stores rs) small);
    }

pub rounds_by_reservations : (H C : Type 0) → RoundsByReservations H C
rounds_by_reservations H C = λ w budget quotas m sound small tied size. round_meets w sound budget quotas m small tied size

-- ---- runs

pub record RunHolds {H C : Type 0} (w : Words H C) (budget : ℕ) (quotas : ℕ → List ℕ) (n : ℕ) (m : Reserving H C) : Type 0 where
  pub same : (reserving_run w budget quotas n m).state ≡ run_of w budget quotas n m.state
  pub tied : Tied (reserving_run w budget quotas n m).reservations (reserving_run w budget quotas n m).state.trace
  pub size : length (reserving_run w budget quotas n m).reservations ≡ length m.reservations

run_meets : {H C : Type 0} (w : Words H C) → Sound w → (budget : ℕ) (quotas : ℕ → List ℕ) (n : ℕ) (m : Reserving H C) → IsBytes m.state.bytes → Tied m.reservations m.state.trace →
    length m.reservations ≡ length m.state.harts → RunHolds w budget quotas n m
unfolding reserving_run run_of
run_meets w sound budget quotas zero m small tied size = record { same = refl; tied = tied; size = refl }
run_meets w sound budget quotas (suc n) m small tied size =
    let one : RoundByReservations w budget quotas m = round_meets w sound budget quotas m small tied size in
    let rest : RunHolds w budget quotas n (reserving_round w budget quotas m) =
    run_meets w sound budget quotas n (reserving_round w budget quotas m) one.bytes one.tied (one.size ∙ size ∙ sym one.harts) in
    record { same = rest.same ∙ ap (run_of w budget quotas n) one.same; tied = rest.tied; size = rest.size ∙ one.size }

tied_at_start : {H C : Type 0} (hs : List H) (bs : List ℕ) (c : C) → Tied (opening_reserving hs bs c).reservations []
tied_at_start hs bs c = record { each = λ h l. get_or-replicate (length hs) h None None (omega (arith, l, length-replicate {A = Option Span} (length hs) None)) ∙ sym (held_start h) }

pub runs_by_reservations : (H C : Type 0) → RunsByReservations H C
runs_by_reservations H C = λ w sound budget quotas n hs bs c small.
    let kept : RunHolds w budget quotas n (opening_reserving hs bs c) =
    run_meets w sound budget quotas n (opening_reserving hs bs c) small (tied_at_start hs bs c) (length-replicate {A = Option Span} (length hs) None) in
    record {
      same = kept.same;
      tied = kept.tied;
      size = kept.size ∙ length-replicate {A = Option Span} (length hs) None;
      round_trace = subst (λ (s : State H C). IsRoundTrace s.trace (λ x. slice_index bs x) budget) (sym kept.same) (traces H C w sound budget quotas n hs bs c small);
    }
