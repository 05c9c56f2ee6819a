-- What is asked of a turn, as two short turns and two tests answer it; and turns over a list.
use Rattle.std.proofs.Common.{◌≡◌, ℕ, zero, suc, ◌+◌, ◌-◌, ◌<◌, ◌≤◌, ◌==◌, cond, List, [], ◌∷◌, ◌++◌, length, take, slice_get, Some, None, refl, sym, ap, subst, ◌∙◌, arith}
use Rattle.std.proofs.lemmas.List.{append-nil}
use Rattle.round_schedule.specs.declared.event.Event.{Event}
use Rattle.round_schedule.specs.declared.event.Phase.TheVariants.{Serial}
use Rattle.round_schedule.specs.ReservingTurn.{ReservingPhase, ReservingTurn, SerialByReservations, reserving_phase_from, reserving_turn_from, log_events, told}
use Rattle.round_schedule.specs.Events.{events_of}
use Rattle.round_schedule.specs.Schedule.{Words, HartRound, Turn, serial_from, turn_from}
use Rattle.round_schedule.specs.Reservations.{Tied}
use Rattle.round_schedule.proofs.ReservingTurns.{serial_by_reservations, turn_same, turn_tied}
use Rattle.round_schedule.specs.Past.{turns_from}
use Rattle.round_schedule.proofs.PastParts.{turn_steps, turns_are}
use Rattle.round_schedule.proofs.PastAsking.{short_turn, whole_turn, first_of_turn}

past_end : {A : Type 0} (xs : List A) (i : ℕ) → length xs ≤ i → slice_get xs i ≡ None
past_end [] i le = refl
past_end (x ∷ xs) zero le = absurd (omega (arith, le))
past_end (x ∷ xs) (suc i) le = past_end xs i (omega (arith, le))

-- a turn that ended before so many instructions did fewer
pub did_fewer : {H C : Type 0} (w : Words H C) (n i budget count : ℕ) (u : Turn H C) → count ≤ budget → turn_steps w n i count u < count → slice_get (turns_from w n i budget u) count ≡ None
did_fewer w n i budget count u le lt =
    let e : count + (budget - count) ≡ budget = omega (arith, le) in
    let s : turn_steps w n i budget u ≡ turn_steps w n i count u = subst (λ (b : ℕ). turn_steps w n i b u ≡ turn_steps w n i count u) e (short_turn w n i count (budget - count) u lt) in
    past_end (turns_from w n i budget u) count (omega (arith, (turns_are w n i budget u).size, s, lt))

-- the whole budget
pub did_all : {H C : Type 0} (w : Words H C) (n i budget : ℕ) (u : Turn H C) → turn_steps w n i budget u ≡ budget → slice_get (turns_from w n i budget u) budget ≡ Some (turn_from w n i budget u).hart
did_all w n i budget u all = subst (λ (k : ℕ). slice_get (turns_from w n i budget u) k ≡ Some (turn_from w n i budget u).hart) all (turns_are w n i budget u).at_end

-- so many, and what one more instruction does from there tells whether this is the end
pub did_so_many : {H C : Type 0} (w : Words H C) (n i budget count : ℕ) (u : Turn H C) → count < budget → turn_steps w n i count u ≡ count →
    slice_get (turns_from w n i budget u) count ≡ cond (turn_steps w n i 1 (turn_from w n i count u) == 0) (Some (turn_from w n i 1 (turn_from w n i count u)).hart) (Some (turn_from w n i count u).hart)
did_so_many w n i budget count u lt all =
    let e : count + suc (budget - count - 1) ≡ budget = omega (arith, lt) in
    subst (λ (b : ℕ). slice_get (turns_from w n i b u) count ≡ cond (turn_steps w n i 1 (turn_from w n i count u) == 0) (Some (turn_from w n i 1 (turn_from w n i count u)).hart) (Some (turn_from w n i count u).hart)) e
    (whole_turn w n i count (suc (budget - count - 1)) u all ∙ first_of_turn w n i (budget - count - 1) (turn_from w n i count u) (turn_steps w n i 1 (turn_from w n i count u)) refl)

-- ---- over a list

abbrev pub start_of : {H C : Type 0} → H → ReservingPhase H C → ReservingTurn H C
start_of h c = record { hart = h; bytes = c.bytes; console = c.console; reservations = c.reservations; log = [] }

abbrev pub again : {H C : Type 0} → ReservingTurn H C → ReservingTurn H C
again d = record d { log = [] }

-- the trace of a turn over the list, after the trace u
abbrev pub shown : {H C : Type 0} → ℕ → ℕ → List Event → ReservingTurn H C → Turn H C
shown n i u d = record { hart = d.hart; bytes = d.bytes; console = d.console; trace = u ++ events_of n i Serial d.log }

-- the turns of the harts before hart i, from a phase over the list that has no turn yet
pub record Before {H C : Type 0} (w : Words H C) (budget n i : ℕ) (rs : List (HartRound H)) (t : List Event) (s : ReservingPhase H C) : Type 0 where
  pub same : serial_from w budget 0 (take i rs) (told t n s) ≡ told t n (reserving_phase_from w budget n 0 (take i rs) s)
  pub tied : Tied (reserving_phase_from w budget n 0 (take i rs) s).reservations (t ++ log_events n 0 (reserving_phase_from w budget n 0 (take i rs) s).log)
  pub size : length (reserving_phase_from w budget n 0 (take i rs) s).reservations ≡ length s.reservations

pub before_is : {H C : Type 0} (w : Words H C) (budget n i : ℕ) (rs : List (HartRound H)) (t : List Event) (s : ReservingPhase H C) → Tied s.reservations (t ++ log_events n 0 s.log) → length s.log ≡ 0 → length (take i rs) ≤ length s.reservations → Before w budget n i rs t s
before_is {H} {C} w budget n i rs t s tied none room =
    let x : SerialByReservations w budget n 0 (take i rs) t s = serial_by_reservations H C w budget n 0 (take i rs) t s tied none (omega (arith, room)) in
    record { same = x.same; tied = x.tied; size = x.size }

-- a turn of hart i there, and a second one that goes on from it
pub record TurnsThere {H C : Type 0} (w : Words H C) (n i k j : ℕ) (h : H) (front : List Event) (c : ReservingPhase H C) : Type 0 where
  pub first : turn_from w n i k (record { hart = h; bytes = c.bytes; console = c.console; trace = front }) ≡ shown n i front (reserving_turn_from w n i k (start_of h c))
  pub second : turn_from w n i j (shown n i front (reserving_turn_from w n i k (start_of h c))) ≡ shown n i (front ++ events_of n i Serial (reserving_turn_from w n i k (start_of h c)).log) (reserving_turn_from w n i j (again (reserving_turn_from w n i k (start_of h c))))

pub turns_there : {H C : Type 0} (w : Words H C) (n i k j : ℕ) (h : H) (front : List Event) (c : ReservingPhase H C) → Tied c.reservations front → i < length c.reservations → length (reserving_turn_from w n i k (start_of h c)).reservations ≡ length c.reservations → TurnsThere w n i k j h front c
turns_there w n i k j h front c tied low size =
    let d = reserving_turn_from w n i k (start_of h c) in
    let next : List Event = front ++ events_of n i Serial d.log in
    let begun : Tied c.reservations (front ++ []) = subst (Tied c.reservations) (sym (append-nil front)) tied in
    let after_it : Tied d.reservations (next ++ []) = subst (Tied d.reservations) (sym (append-nil next)) (turn_tied w front n i k (start_of h c) begun low) in
    record {
      first = turn_same w front n i k (start_of h c) _ (ap (λ (v : List Event). record { hart = h; bytes = c.bytes; console = c.console; trace = v }) (sym (append-nil front))) begun low;
      second = turn_same w next n i j (again d) _ (ap (λ (v : List Event). record { hart = d.hart; bytes = d.bytes; console = d.console; trace = v }) (sym (append-nil next))) after_it (omega (arith, low, size));
    }
