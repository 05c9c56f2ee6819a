-- The serial phase over a list is that over the trace.
use Rattle.std.proofs.Common.{◌≡◌, ℕ, zero, suc, ◌+◌, ◌<◌, ◌≤◌, ◌==◌, Bool, true, false, if◌then◌else◌, List, [], ◌∷◌, ◌++◌, length, Option, Some, None, option_to_list, refl, sym, ◌∙◌, ap, subst, arith, append_assoc, append-nil}
use Rattle.pages.specs.Memory.{after}
use Rattle.round_schedule.specs.declared.access.Access.{Access}
use Rattle.round_schedule.specs.declared.access.Stepped.{Stepped}
use Rattle.round_schedule.specs.declared.access.Stepped.TheVariants.{Done, Waits, Stopped}
use Rattle.round_schedule.specs.declared.event.Event.{Event}
use Rattle.round_schedule.specs.declared.event.Phase.TheVariants.{Serial}
use Rattle.round_schedule.specs.declared.span.Span.{Span}
use Rattle.round_schedule.specs.Accesses.{writes}
use Rattle.round_schedule.specs.ReservingTurn.{ReservingPhase, ReservingTurn, SerialByReservations, SerialPhaseByReservations, reserving_phase_joined, reserving_turn_from, reserving_turn_next, reserving_turn_taken, log_events, told, updated, updated_by}
use Rattle.round_schedule.specs.Events.{events_of}
use Rattle.round_schedule.specs.Held.{held_after_own, unless}
use Rattle.round_schedule.specs.Schedule.{HartRound, SerialOutcome, Turn, Words, joined, serial_from, serial_next, turn_from, turned}
use Rattle.round_schedule.specs.Reservations.{Tied, Updates, entry}
use Rattle.round_schedule.proofs.Runs.{events_of-append}
use Rattle.round_schedule.proofs.ReservationsTied.{access_ties}

-- ---- the list after one access

length-updated : (i j : ℕ) (a : Access) (rs : List (Option Span)) → length (updated i j a rs) ≡ length rs
length-updated i j a [] = refl
length-updated i j a (r ∷ rs) = ap (λ (n : ℕ). suc n) (length-updated i (suc j) a rs)

entry-updated : (i j : ℕ) (a : Access) (rs : List (Option Span)) (h k : ℕ) → h < length rs → j + h ≡ k →
    entry (updated i j a rs) h ≡ (if i == k then held_after_own a (entry rs h) else unless (writes a) (entry rs h))
entry-updated i j a [] h k l e = absurd (omega (arith, l))
entry-updated i j a (r ∷ rs) zero k l e = ap (λ (n : ℕ). if i == n then held_after_own a r else unless (writes a) r) (omega (arith, e))
entry-updated i j a (r ∷ rs) (suc h) k l e = entry-updated i (suc j) a rs h k (omega (arith, l)) (omega (arith, e))

updates : (i : ℕ) (a : Access) (reservations : List (Option Span)) → Updates i a reservations (updated i 0 a reservations)
updates i a reservations = record { size = length-updated i 0 a reservations; each = λ h l. entry-updated i 0 a reservations h h l (omega arith) }

length-updated_by : (i : ℕ) (a : Option Access) (reservations : List (Option Span)) → length (updated_by i a reservations) ≡ length reservations
length-updated_by i None reservations = refl
length-updated_by i (Some a) reservations = length-updated i 0 a reservations

logged_more : (t : List Event) (n i : ℕ) (log more : List Access) →
    (t ++ events_of n i Serial log) ++ events_of n i Serial more ≡ t ++ events_of n i Serial (log ++ more)
logged_more t n i log more =
    append_assoc t (events_of n i Serial log) (events_of n i Serial more) ∙ ap (λ (u : List Event). t ++ u) (sym (events_of-append n i Serial log more))

tied_more : (t : List Event) (n i : ℕ) (log : List Access) (a : Option Access) (reservations : List (Option Span)) → Tied reservations (t ++ events_of n i Serial log) →
    Tied (updated_by i a reservations) (t ++ events_of n i Serial (log ++ option_to_list a))
tied_more t n i log None reservations tied = subst (λ (l : List Access). Tied reservations (t ++ events_of n i Serial l)) (sym (append-nil log)) tied
tied_more t n i log (Some a) reservations tied =
    subst (Tied (updated i 0 a reservations)) (logged_more t n i log (a ∷ []))
    (access_ties n i Serial a reservations (updated i 0 a reservations) (t ++ events_of n i Serial log) tied (updates i a reservations))

module _ {H C : Type 0} (w : Words H C) (t : List Event) (n i : ℕ) where
  -- a turn over the list as a turn after the trace t
  abbrev turn_told : ReservingTurn H C → Turn H C
  turn_told p = record { hart = p.hart; bytes = p.bytes; console = p.console; trace = t ++ events_of n i Serial p.log }

  -- a turn over the list that goes as the turn does
  record Alike (p d : ReservingTurn H C) (u : Turn H C) : Type 0 where
    same : u ≡ turn_told d
    tied : Tied d.reservations (t ++ events_of n i Serial d.log)
    size : length d.reservations ≡ length p.reservations

  alike_by : (k : ℕ) (p : ReservingTurn H C) (y : Stepped) (o : SerialOutcome H C) →
      ((q : ReservingTurn H C) → Tied q.reservations (t ++ events_of n i Serial q.log) → i < length q.reservations → Alike q (reserving_turn_from w n i k q) (turn_from w n i k (turn_told q))) →
      Tied p.reservations (t ++ events_of n i Serial p.log) → i < length p.reservations →
      Alike p (reserving_turn_taken i y p o (reserving_turn_from w n i k)) (turned n i y (turn_told p) o (turn_from w n i k))
  alike_by k p (Done a) o rest tied l =
      let q : ReservingTurn H C = record { hart = o.hart; bytes = after p.bytes o.stores; console = o.console; reservations = updated_by i a p.reservations; log = p.log ++ option_to_list a } in
      let next : Alike q (reserving_turn_from w n i k q) (turn_from w n i k (turn_told q)) =
      rest q (tied_more t n i p.log a p.reservations tied) (omega (arith, l, length-updated_by i a p.reservations)) in
      record {
        same = ap (λ (u : List Event). turn_from w n i k (record { hart = o.hart; bytes = after p.bytes o.stores; console = o.console; trace = u })) (logged_more t n i p.log (option_to_list a)) ∙ next.same;
        tied = next.tied;
        size = next.size ∙ length-updated_by i a p.reservations;
      }
  alike_by k p Waits o rest tied l = record { same = refl; tied = tied; size = refl }
  alike_by k p (Stopped code) o rest tied l = record { same = refl; tied = tied; size = refl }

  alike_stopped : (p d : ReservingTurn H C) (u : Turn H C) (s : Bool) → Tied p.reservations (t ++ events_of n i Serial p.log) → Alike p d u → Alike p (if s then p else d) (if s then turn_told p else u)
  alike_stopped p d u true tied h = record { same = refl; tied = tied; size = refl }
  alike_stopped p d u false tied h = h

  same_next : (p : ReservingTurn H C) → Tied p.reservations (t ++ events_of n i Serial p.log) → i < length p.reservations → reserving_turn_next w n i p ≡ serial_next w n i (turn_told p)
  same_next p tied l = ap (λ (r : Option Span). w.serial_step n p.hart p.bytes p.console r) (tied.each i l)

  turn_alike : (k : ℕ) (p : ReservingTurn H C) → Tied p.reservations (t ++ events_of n i Serial p.log) → i < length p.reservations → Alike p (reserving_turn_from w n i k p) (turn_from w n i k (turn_told p))
  unfolding reserving_turn_from turn_from
  turn_alike zero p tied l = record { same = refl; tied = tied; size = refl }
  turn_alike (suc k) p tied l =
      alike_stopped p (reserving_turn_taken i (reserving_turn_next w n i p).answer p (reserving_turn_next w n i p) (reserving_turn_from w n i k))
      (turned n i (serial_next w n i (turn_told p)).answer (turn_told p) (serial_next w n i (turn_told p)) (turn_from w n i k)) (w.stopped p.hart) tied
      (subst (λ (o : SerialOutcome H C). Alike p (reserving_turn_taken i (reserving_turn_next w n i p).answer p (reserving_turn_next w n i p) (reserving_turn_from w n i k)) (turned n i o.answer (turn_told p) o (turn_from w n i k)))
      (same_next p tied l)
      (alike_by k p (reserving_turn_next w n i p).answer (reserving_turn_next w n i p) (turn_alike k) tied l))

  -- a whole turn
  pub turn_same : (k : ℕ) (p : ReservingTurn H C) (u : Turn H C) → u ≡ turn_told p → Tied p.reservations (t ++ events_of n i Serial p.log) → i < length p.reservations →
      turn_from w n i k u ≡ turn_told (reserving_turn_from w n i k p)
  turn_same k p u e tied l = ap (turn_from w n i k) e ∙ (turn_alike k p tied l).same

  pub turn_tied : (k : ℕ) (p : ReservingTurn H C) → Tied p.reservations (t ++ events_of n i Serial p.log) → i < length p.reservations → Tied (reserving_turn_from w n i k p).reservations (t ++ events_of n i Serial (reserving_turn_from w n i k p).log)
  turn_tied k p tied l = (turn_alike k p tied l).tied

  pub turn_size : (k : ℕ) (p : ReservingTurn H C) → Tied p.reservations (t ++ events_of n i Serial p.log) → i < length p.reservations → length (reserving_turn_from w n i k p).reservations ≡ length p.reservations
  turn_size k p tied l = (turn_alike k p tied l).size

-- ---- the turns of all harts

log_events-push : (n i : ℕ) (ls : List (List Access)) (l : List Access) → log_events n i (ls ++ l ∷ []) ≡ log_events n i ls ++ events_of n (i + length ls) Serial l
log_events-push n i [] l = append-nil (events_of n i Serial l) ∙ ap (λ (k : ℕ). events_of n k Serial l) (omega arith)
log_events-push n i (m ∷ ls) l =
    ap (λ (u : List Event). events_of n i Serial m ++ u) (log_events-push n (suc i) ls l ∙ ap (λ (k : ℕ). log_events n (suc i) ls ++ events_of n k Serial l) (omega arith))
    ∙ sym (append_assoc (events_of n i Serial m) (log_events n (suc i) ls) (events_of n (i + suc (length ls)) Serial l))

module _ {H C : Type 0} (w : Words H C) (budget n : ℕ) (t : List Event) where
  by_reservations : (i : ℕ) (rs : List (HartRound H)) (s : ReservingPhase H C) → Tied s.reservations (t ++ log_events n 0 s.log) → length s.log ≡ i → i + length rs ≤ length s.reservations → SerialByReservations w budget n i rs t s
  by_reservations i [] s tied count l = record { same = refl; tied = tied; size = refl }
  by_reservations i (r ∷ rs) s tied count l =
      let front : List Event = t ++ log_events n 0 s.log in
      let start : ReservingTurn H C = record { hart = r.last.hart; bytes = s.bytes; console = s.console; reservations = s.reservations; log = [] } in
      let k : ℕ = if r.waits then budget else 0 in
      let d : ReservingTurn H C = reserving_turn_from w n i k start in
      let low : i < length s.reservations = omega (arith, l) in
      let begun : Tied s.reservations (front ++ []) = subst (Tied s.reservations) (sym (append-nil front)) tied in
      let u : Turn H C = turn_from w n i k (record { hart = r.last.hart; bytes = s.bytes; console = s.console; trace = front }) in
      let same : u ≡ record { hart = d.hart; bytes = d.bytes; console = d.console; trace = front ++ events_of n i Serial d.log } =
      turn_same w front n i k start (record { hart = r.last.hart; bytes = s.bytes; console = s.console; trace = front })
      (ap (λ (v : List Event). record { hart = r.last.hart; bytes = s.bytes; console = s.console; trace = v }) (sym (append-nil front))) begun low in
      let after_it : ReservingPhase H C = reserving_phase_joined s d in
      let trace : front ++ events_of n i Serial d.log ≡ t ++ log_events n 0 (s.log ++ d.log ∷ []) =
      append_assoc t (log_events n 0 s.log) (events_of n i Serial d.log)
      ∙ ap (λ (v : List Event). t ++ v) (ap (λ (j : ℕ). log_events n 0 s.log ++ events_of n j Serial d.log) (omega (arith, count)) ∙ sym (log_events-push n 0 s.log d.log)) in
      let rest : SerialByReservations w budget n (suc i) rs t after_it =
      by_reservations (suc i) rs after_it (subst (Tied d.reservations) trace (turn_tied w front n i k start begun low))
      (length_push s.log d.log ∙ ap (λ (j : ℕ). suc j) count) (omega (arith, l, turn_size w front n i k start begun low)) in
      let joins : joined (told t n s) u ≡ told t n after_it =
      ap (joined (told t n s)) same
      ∙ ap (λ (v : List Event). record { harts = s.harts ++ d.hart ∷ []; bytes = d.bytes; console = d.console; trace = v; rounds = n }) trace in
      record {
        same = ap (serial_from w budget (suc i) rs) joins ∙ rest.same;
        tied = rest.tied;
        size = rest.size ∙ turn_size w front n i k start begun low;
      }
    where
      length_push : {X : Type 0} (xs : List X) (x : X) → length (xs ++ x ∷ []) ≡ suc (length xs)
      length_push [] x = refl
      length_push (y ∷ ys) x = ap (λ (j : ℕ). suc j) (length_push ys x)

pub serial_by_reservations : (H C : Type 0) → SerialPhaseByReservations H C
serial_by_reservations H C = λ w budget n i rs t s. by_reservations w budget n t i rs s
