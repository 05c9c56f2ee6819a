-- A hart's sight of a round, from the hart that the past has there, and the bytes that a shorter part or turn leaves.
use Rattle.std.proofs.Common.{◌≡◌, ℕ, zero, suc, ◌+◌, ◌-◌, ◌<◌, ◌≤◌, Bool, true, false, List, [], ◌∷◌, ◌++◌, length, map, take, slice_get, slice_index, Option, Some, None, refl, sym, ◌∙◌, ap, subst, arith}
use Rattle.std.proofs.lemmas.List.{append-nil}
use Rattle.pages.specs.Memory.{IsBytes, after}
use Rattle.round_schedule.specs.declared.access.Stepped.{Stepped}
use Rattle.round_schedule.specs.declared.access.Stepped.TheVariants.{Done, Waits, Stopped}
use Rattle.round_schedule.specs.declared.event.Event.{Event}
use Rattle.round_schedule.specs.declared.span.Span.{Span}
use Rattle.round_schedule.specs.ByReservations.{committed_reservations}
use Rattle.round_schedule.specs.Past.{before_turn, hart_after, last_of, parts_from, past_of}
use Rattle.round_schedule.specs.Schedule.{HartRound, Progress, State, Turn, Words, all_stores, began, events_from, hart_round_of, hart_rounds, next_of, round_from, serial_from, serial_next, turn_from, turn_went, went}
use Rattle.round_schedule.specs.Sound.{Sound}
use Rattle.round_schedule.specs.ReservingTurn.{ReservingPhase, ReservingTurn, log_events, reserving_phase_from, reserving_turn_from, told}
use Rattle.round_schedule.specs.Reservations.{Tied}
use Rattle.round_schedule.proofs.Machines.{commits}
use Rattle.round_schedule.proofs.PastAnswers.{reserving_phase_before, reserving_turn_there}
use Rattle.round_schedule.proofs.PastEnds.{rounds_length}
use Rattle.round_schedule.proofs.PastParts.{of_first, of_second, parts_are, steps_from}
use Rattle.round_schedule.proofs.PastTurns.{Before, TurnsThere, before_is, start_of, turns_there}
use Rattle.round_schedule.proofs.ReservingTurns.{turn_size}
use Rattle.round_schedule.proofs.ReservationsTied.{commit_ties}
use Rattle.moments.specs.Sights.{Sight, and_then, next_seen, of_hart, part_sights, seen_after, sight_after, sight_at, sights_of, turn_sights, turn_start}
use Rattle.moments.proofs.Ends.{sights_end}
use Rattle.moments.proofs.Left.{sight_goes, sight_in}
use Rattle.moments.proofs.Past.{harts_in, part_is, sights_are, sights_past}

-- ---- a list, from its harts

-- none where its harts have none
pub none_at : {H : Type 0} (xs : List (Sight H)) (c : ℕ) → slice_get (harts_in xs) c ≡ None → slice_get xs c ≡ None
none_at [] c e = refl
none_at (x ∷ xs) zero e = absurd cc
none_at (x ∷ xs) (suc c) e = none_at xs c e

some_is : {X : Type 0} (x y : X) → Some x ≡ Some y → x ≡ y
some_is x y e = cc

abbrev there : {H : Type 0} → Sight H → Option (Sight H)
there x = Some x

-- the hart that they have there, with these bytes
pub some_at : {H : Type 0} (xs : List (Sight H)) (c : ℕ) (h : H) (bs : List ℕ) → slice_get (harts_in xs) c ≡ Some h → ((x : Sight H) → slice_get xs c ≡ Some x → x.bytes ≡ bs) → slice_get xs c ≡ Some (record { hart = h; bytes = bs })
some_at [] c h bs e f = absurd cc
some_at {H} (x ∷ xs) zero h bs e f =
    let bytes : x.bytes ≡ bs = f x refl in
    let hart : x.hart ≡ h = some_is x.hart h e in
    ap (λ (b : List ℕ). there (record { hart = x.hart; bytes = b })) bytes ∙ ap (λ (g : H). there (record { hart = g; bytes = bs })) hart
some_at (x ∷ xs) (suc c) h bs e f = some_at xs c h bs e f

harts_size : {H : Type 0} (xs : List (Sight H)) → length (harts_in xs) ≡ length xs
harts_size [] = refl
harts_size (x ∷ xs) = ap suc (harts_size xs)

-- ---- the bytes there are those that as many instructions leave

module _ {H C : Type 0} (w : Words H C) (bs : List ℕ) where
  abbrev pub PartSees : ℕ → ℕ → Progress H → Type 0
  PartSees c k p = (x : Sight H) → slice_get (part_sights w k (sight_in bs p)) c ≡ Some x → x.bytes ≡ after bs (round_from w bs c p).last.stores

  part_now : (k : ℕ) (p : Progress H) (stopped : Bool) (a : Stepped) → w.stopped p.hart ≡ stopped → (next_of w bs p).answer ≡ a → PartSees 0 (suc k) p
  unfolding part_sights round_from
  part_now k p true a hs ha = rw hs (λ x e. ap (λ (y : Sight H). y.bytes) (sym (some_is _ x e)))
  part_now k p false Waits hs ha = rw (hs, ha) (λ x e. ap (λ (y : Sight H). y.bytes) (sym (some_is _ x e)))
  part_now k p false (Stopped code) hs ha = rw (hs, ha) (λ x e. ap (λ (y : Sight H). y.bytes) (sym (some_is _ x e)))
  part_now k p false (Done a) hs ha = rw (hs, ha) (λ x e. ap (λ (y : Sight H). y.bytes) (sym (some_is _ x e)))

  part_later : (c k : ℕ) (p : Progress H) (stopped : Bool) (a : Stepped) → w.stopped p.hart ≡ stopped → (next_of w bs p).answer ≡ a → ((q : Progress H) → PartSees c k q) → PartSees (suc c) (suc k) p
  unfolding part_sights round_from
  part_later c k p true a hs ha ih = rw hs (λ x e. absurd cc)
  part_later c k p false Waits hs ha ih = rw (hs, ha) (λ x e. absurd cc)
  part_later c k p false (Stopped code) hs ha ih = rw (hs, ha) (λ x e. absurd cc)
  part_later c k p false (Done a) hs ha ih =
      let q : Progress H = went p (next_of w bs p) a in
      rw (hs, ha) (λ x e. ih q x (ap (λ (s : Sight H). slice_get (part_sights w k s) c) (sym (sight_goes bs p (next_of w bs p) a)) ∙ e))

  pub part_sees : (c k : ℕ) (p : Progress H) → PartSees c k p
  unfolding part_sights round_from
  part_sees zero zero p = λ x e. ap (λ (y : Sight H). y.bytes) (sym (some_is _ x e))
  part_sees (suc c) zero p = λ x e. absurd cc
  part_sees zero (suc k) p = part_now k p (w.stopped p.hart) (next_of w bs p).answer refl refl
  part_sees (suc c) (suc k) p = part_later c k p (w.stopped p.hart) (next_of w bs p).answer refl refl (λ q. part_sees c k q)

module _ {H C : Type 0} (w : Words H C) (n i : ℕ) where
  abbrev pub TurnSees : ℕ → ℕ → Turn H C → Type 0
  TurnSees c k p = (x : Sight H) → slice_get (turn_sights w n i k p) c ≡ Some x → x.bytes ≡ (turn_from w n i c p).bytes

  turn_now : (k : ℕ) (p : Turn H C) (stopped : Bool) (a : Stepped) → w.stopped p.hart ≡ stopped → (serial_next w n i p).answer ≡ a → TurnSees 0 (suc k) p
  unfolding turn_sights turn_from
  turn_now k p true a hs ha = rw hs (λ x e. ap (λ (y : Sight H). y.bytes) (sym (some_is _ x e)))
  turn_now k p false Waits hs ha = rw (hs, ha) (λ x e. ap (λ (y : Sight H). y.bytes) (sym (some_is _ x e)))
  turn_now k p false (Stopped code) hs ha = rw (hs, ha) (λ x e. ap (λ (y : Sight H). y.bytes) (sym (some_is _ x e)))
  turn_now k p false (Done a) hs ha = rw (hs, ha) (λ x e. ap (λ (y : Sight H). y.bytes) (sym (some_is _ x e)))

  turn_later : (c k : ℕ) (p : Turn H C) (stopped : Bool) (a : Stepped) → w.stopped p.hart ≡ stopped → (serial_next w n i p).answer ≡ a → ((q : Turn H C) → TurnSees c k q) → TurnSees (suc c) (suc k) p
  unfolding turn_sights turn_from
  turn_later c k p true a hs ha ih = rw hs (λ x e. absurd cc)
  turn_later c k p false Waits hs ha ih = rw (hs, ha) (λ x e. absurd cc)
  turn_later c k p false (Stopped code) hs ha ih = rw (hs, ha) (λ x e. absurd cc)
  turn_later c k p false (Done a) hs ha ih = rw (hs, ha) (ih (turn_went n i p (serial_next w n i p) a))

  pub turn_sees : (c k : ℕ) (p : Turn H C) → TurnSees c k p
  unfolding turn_sights turn_from
  turn_sees zero zero p = λ x e. ap (λ (y : Sight H). y.bytes) (sym (some_is _ x e))
  turn_sees (suc c) zero p = λ x e. absurd cc
  turn_sees zero (suc k) p = turn_now k p (w.stopped p.hart) (serial_next w n i p).answer refl refl
  turn_sees (suc c) (suc k) p = turn_later c k p (w.stopped p.hart) (serial_next w n i p).answer refl refl (λ q. turn_sees c k q)

-- ---- in a round

-- where the past has no hart there is no sight
pub no_sight : {H C : Type 0} (w : Words H C) (budget : ℕ) (quotas : ℕ → List ℕ) (s : State H C) (i count : ℕ) → hart_after w budget quotas s i count ≡ None → sight_after w budget quotas s i count ≡ None
no_sight {H} {C} w budget quotas s i count e =
    none_at (sights_of w budget quotas s i) count (ap (λ (hs : List H). slice_get hs count) (sights_past H C w budget quotas s i) ∙ e)

module _ {H C : Type 0} (w : Words H C) (budget : ℕ) (quotas : ℕ → List ℕ) (s : State H C) (i count : ℕ) (h : H) (there : slice_get s.harts i ≡ Some h) where
  abbrev quota : ℕ
  quota = slice_index (quotas s.rounds) i

  abbrev rs : List (HartRound H)
  rs = hart_rounds w s.bytes (quotas s.rounds) s.harts

  abbrev part : HartRound H
  part = hart_round_of w s.bytes quota h

  abbrev start : Sight H
  start = record { hart = h; bytes = s.bytes }

  abbrev begun : State H C
  begun = before_turn w budget s rs i

  abbrev turn : List (Sight H)
  turn = turn_sights w begun.rounds i budget (turn_start begun part)

  by_past : (g : H) (bs : List ℕ) → hart_after w budget quotas s i count ≡ Some g → ((x : Sight H) → sight_after w budget quotas s i count ≡ Some x → x.bytes ≡ bs) →
      sight_after w budget quotas s i count ≡ Some (record { hart = g; bytes = bs })
  by_past g bs e f = some_at (sights_of w budget quotas s i) count g bs (ap (λ (hs : List H). slice_get hs count) (sights_past H C w budget quotas s i) ∙ e) f

  part_size : length (part_sights w quota start) ≡ suc (steps_from w s.bytes quota (began h))
  part_size = sym (harts_size (part_sights w quota start)) ∙ ap length (part_is w s.bytes quota (began h)) ∙ (parts_are w s.bytes quota (began h)).size

  -- the list by whether the hart waits
  by_waiting : (waits : Bool) → part.waits ≡ waits → sights_of w budget quotas s i ≡ and_then waits (part_sights w quota start) turn
  by_waiting waits e = sights_are w budget quotas s i h there ∙ ap (λ (b : Bool). and_then b (part_sights w quota start) turn) e

  in_part : (waits : Bool) → part.waits ≡ waits → (waits ≡ true → count < steps_from w s.bytes quota (began h)) → sight_after w budget quotas s i count ≡ slice_get (part_sights w quota start) count
  in_part true e lt = ap (λ (xs : List (Sight H)). slice_get xs count) (by_waiting true e) ∙ of_first (part_sights w quota start) turn count (omega (arith, lt refl, part_size))
  in_part false e lt = ap (λ (xs : List (Sight H)). slice_get xs count) (by_waiting false e)

  -- what a part of so many instructions ends with
  abbrev shorter : HartRound H
  shorter = hart_round_of w s.bytes count h

  pub shorter_end : last_of (part_sights w count start) ≡ Some (record { hart = shorter.last.hart; bytes = after s.bytes shorter.last.stores })
  shorter_end = (sights_end H C).part w s.bytes count h

  -- a hart that the past has within the part, or at the end of one after which it doesn't wait
  pub seen_in_part : (g : H) → (part.waits ≡ true → count < steps_from w s.bytes quota (began h)) → hart_after w budget quotas s i count ≡ Some g →
      sight_after w budget quotas s i count ≡ Some (record { hart = g; bytes = after s.bytes shorter.last.stores })
  seen_in_part g lt e = by_past g (after s.bytes shorter.last.stores) e (λ x f. part_sees w s.bytes count quota (began h) x (sym (in_part part.waits refl lt) ∙ f))

  in_turn : part.waits ≡ true → steps_from w s.bytes quota (began h) ≤ count → sight_after w budget quotas s i count ≡ slice_get turn (count - steps_from w s.bytes quota (began h))
  in_turn e le =
      let steps = steps_from w s.bytes quota (began h) in
      let sum : count ≡ steps + (count - steps) = omega (arith, le) in
      ap (λ (xs : List (Sight H)). slice_get xs count) (by_waiting true e)
      ∙ ap (λ (k : ℕ). slice_get (and_then true (part_sights w quota start) turn) k) sum
      ∙ of_second (part_sights w quota start) turn steps (count - steps) part_size

  -- a hart that the past has in its turn
  pub seen_in_turn : (g : H) → part.waits ≡ true → steps_from w s.bytes quota (began h) ≤ count → hart_after w budget quotas s i count ≡ Some g →
      sight_after w budget quotas s i count ≡ Some (record { hart = g; bytes = (turn_from w begun.rounds i (count - steps_from w s.bytes quota (began h)) (turn_start begun part)).bytes })
  seen_in_turn g e le f = by_past g _ f (λ x k. turn_sees w begun.rounds i (count - steps_from w s.bytes quota (began h)) budget (turn_start begun part) x (sym (in_turn e le) ∙ k))

-- ---- the same turn over a list of reservations

take_length : {A : Type 0} (i : ℕ) (xs : List A) → length (take i xs) ≤ length xs
take_length zero xs = omega arith
take_length (suc i) [] = omega arith
take_length (suc i) (x ∷ xs) = omega (arith, take_length i xs)

module _ {H C : Type 0} (w : Words H C) (sound : Sound w) (budget i k : ℕ) (s : State H C) (qs : List ℕ) (reservations : List (Option Span)) (r : HartRound H)
    (tied : Tied reservations s.trace) (size : length reservations ≡ length s.harts) (bytes : IsBytes s.bytes) (there : i < length s.harts) where
  abbrev rounds : List (HartRound H)
  rounds = hart_rounds w s.bytes qs s.harts

  abbrev ready : ReservingPhase H C
  ready = record { harts = []; bytes = after s.bytes (all_stores rounds); console = s.console; reservations = committed_reservations 0 rounds reservations; log = [] }

  abbrev front : List Event
  front = s.trace ++ events_from (s.rounds + 1) 0 rounds

  abbrev phase : ReservingPhase H C
  phase = reserving_phase_before w budget s rounds reservations i

  ready_tied : Tied ready.reservations (front ++ log_events (s.rounds + 1) 0 ready.log)
  ready_tied = subst (Tied ready.reservations) (sym (append-nil front)) (commit_ties w sound s.bytes bytes (s.rounds + 1) qs s.harts reservations ready.reservations s.trace tied (commits rounds reservations))

  before : Before w budget (s.rounds + 1) i rounds front ready
  before = before_is w budget (s.rounds + 1) i rounds front ready ready_tied refl (omega (arith, take_length i rounds, rounds_length w s.bytes qs s.harts, size, (commits rounds reservations).size))

  begun_by_reservations : before_turn w budget s rounds i ≡ told front (s.rounds + 1) phase
  begun_by_reservations =
      ap (λ (t : List Event). serial_from w budget 0 (take i rounds) (record { harts = []; bytes = ready.bytes; console = ready.console; trace = t; rounds = s.rounds + 1 })) (sym (append-nil front))
      ∙ before.same

  abbrev trace : List Event
  trace = front ++ log_events (s.rounds + 1) 0 phase.log

  in_reservations : i < length phase.reservations
  in_reservations = omega (arith, there, size, before.size, (commits rounds reservations).size)

  two_turns : TurnsThere w (s.rounds + 1) i k 1 r.last.hart trace phase
  two_turns = turns_there w (s.rounds + 1) i k 1 r.last.hart trace phase before.tied in_reservations
      (turn_size w trace (s.rounds + 1) i k (start_of r.last.hart phase) (subst (Tied phase.reservations) (sym (append-nil trace)) before.tied) in_reservations)

  -- what memory is after so many instructions of it
  pub turn_bytes : (turn_from w (before_turn w budget s rounds i).rounds i k (turn_start (before_turn w budget s rounds i) r)).bytes ≡ (reserving_turn_there w budget s rounds reservations i r.last.hart k).bytes
  turn_bytes =
      ap (λ (z : State H C). (turn_from w z.rounds i k (turn_start z r)).bytes) begun_by_reservations
      ∙ ap (λ (p : Turn H C). p.bytes) two_turns.first
