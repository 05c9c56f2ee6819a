-- What is asked of a hart within a round, from a shorter round of it, or from two short turns over a list.
use Rattle.std.proofs.Common.{◌≡◌, ℕ, zero, suc, ◌+◌, ◌-◌, ◌%◌, ◌^◌, ◌<◌, ◌≤◌, ◌==◌, Bool, true, false, cond, List, [], ◌∷◌, ◌++◌, length, take, slice_get, slice_index, Option, Some, None, refl, sym, ap, subst, ◌∙◌, arith}
use Rattle.std.proofs.lemmas.List.{append-nil}
use Rattle.pages.specs.Memory.{IsBytes, after}
use Rattle.round_schedule.specs.declared.event.Event.{Event}
use Rattle.round_schedule.specs.declared.span.Span.{Span}
use Rattle.round_schedule.specs.ByReservations.{committed_reservations}
use Rattle.round_schedule.specs.ReservingTurn.{ReservingPhase, ReservingTurn, reserving_phase_from, reserving_turn_from, log_events, told}
use Rattle.round_schedule.specs.Past.{before_turn, goes_on_with, hart_after, parts_from, turn_of_waiting, turns_from}
use Rattle.round_schedule.specs.Schedule.{HartRound, State, Turn, Words, all_stores, began, events_from, hart_round_of, hart_rounds, serial_from, turn_from}
use Rattle.round_schedule.specs.Sound.{Counts, Sound}
use Rattle.round_schedule.specs.Reservations.{Tied}
use Rattle.round_schedule.proofs.ReservingTurns.{turn_size}
use Rattle.round_schedule.proofs.Machines.{commits}
use Rattle.round_schedule.proofs.PastAsking.{counts_steps, counts_turn, early, late}
use Rattle.round_schedule.proofs.PastEnds.{past_is, rounds_length}
use Rattle.round_schedule.proofs.PastParts.{parts_are, steps_from, turn_steps, turns_are}
use Rattle.round_schedule.proofs.PastTurns.{Before, TurnsThere, again, before_is, did_all, did_fewer, did_so_many, shown, start_of, turns_there}
use Rattle.round_schedule.proofs.ReservationsTied.{commit_ties}

-- what is at `count` of a list, by a turn of so many instructions that ended over the list after k, and by one more from there
pub record TurnAsked {H C : Type 0} (done : H → ℕ) (budget count k : ℕ) (xs : List H) (d e : ReservingTurn H C) : Type 0 where
  pub fewer : k < count → slice_get xs count ≡ None
  pub all : count ≤ k → count ≡ budget → slice_get xs count ≡ Some d.hart
  pub ends : count ≤ k → count < budget → done e.hart ≡ done d.hart → slice_get xs count ≡ Some e.hart
  pub goes : count ≤ k → count < budget → (done e.hart ≡ done d.hart → ⊥) → slice_get xs count ≡ Some d.hart

module _ {H C : Type 0} (w : Words H C) (done : H → ℕ) (counts : Counts w done) (n i budget count k : ℕ) (u : Turn H C) (d e : ReservingTurn H C)
    (few : count ≤ budget) (small : budget < 2 ^ 63) (low : done u.hart < 2 ^ 64) (k_low : k < 2 ^ 64) (by_k : done d.hart ≡ (done u.hart + k) % 2 ^ 64)
    (first : (turn_from w n i count u).hart ≡ d.hart) (second : (turn_from w n i 1 (turn_from w n i count u)).hart ≡ e.hart) where
  steps_are : k ≡ turn_steps w n i count u
  steps_are = omega (arith, few, small, low, k_low, by_k, ap done first, counts_turn w done counts n i count u low, (turns_are w n i count u).within)

  one_more : done e.hart ≡ (done d.hart + turn_steps w n i 1 (turn_from w n i count u)) % 2 ^ 64
  one_more =
      let v : Turn H C = turn_from w n i count u in
      let v_low : done v.hart < 2 ^ 64 = omega (arith, counts_turn w done counts n i count u low) in
      sym (ap done second) ∙ counts_turn w done counts n i 1 v v_low ∙ ap (λ (h : H). (done h + turn_steps w n i 1 v) % 2 ^ 64) first

  d_low : done d.hart < 2 ^ 64
  d_low = omega (arith, by_k)

  at_most_one : turn_steps w n i 1 (turn_from w n i count u) ≤ 1
  at_most_one = (turns_are w n i 1 (turn_from w n i count u)).within

  so_many : count ≤ k → count < budget → slice_get (turns_from w n i budget u) count ≡ cond (turn_steps w n i 1 (turn_from w n i count u) == 0) (Some e.hart) (Some d.hart)
  so_many le lt =
      did_so_many w n i budget count u lt (omega (arith, le, steps_are, (turns_are w n i count u).within))
      ∙ ap (λ (h : H). cond (turn_steps w n i 1 (turn_from w n i count u) == 0) (Some h) (Some (turn_from w n i count u).hart)) second
      ∙ ap (λ (h : H). cond (turn_steps w n i 1 (turn_from w n i count u) == 0) (Some e.hart) (Some h)) first

  is_none : turn_steps w n i 1 (turn_from w n i count u) ≡ 0 → (turn_steps w n i 1 (turn_from w n i count u) == 0) ≡ true
  is_none z = rw z refl

  is_one : turn_steps w n i 1 (turn_from w n i count u) ≡ 1 → (turn_steps w n i 1 (turn_from w n i count u) == 0) ≡ false
  is_one z = rw z refl

  by_steps : (m : ℕ) → turn_steps w n i 1 (turn_from w n i count u) ≡ m → (done e.hart ≡ done d.hart → ⊥) → 1 ≤ turn_steps w n i 1 (turn_from w n i count u)
  by_steps zero z differ = absurd (differ (omega (arith, one_more, d_low, z)))
  by_steps (suc m) z differ = omega (arith, z)

  moved : (done e.hart ≡ done d.hart → ⊥) → 1 ≤ turn_steps w n i 1 (turn_from w n i count u)
  moved differ = by_steps (turn_steps w n i 1 (turn_from w n i count u)) refl differ

  pub turn_asked : TurnAsked done budget count k (turns_from w n i budget u) d e
  turn_asked = record {
    fewer = λ lt. did_fewer w n i budget count u few (omega (arith, lt, steps_are));
    all = λ le same.
        subst (λ (b : ℕ). slice_get (turns_from w n i b u) count ≡ Some d.hart) same
        (did_all w n i count u (omega (arith, le, steps_are, (turns_are w n i count u).within)) ∙ ap (λ (h : H). Some h) first);
    ends = λ le lt same. so_many le lt ∙ ap (λ b. cond b (Some e.hart) (Some d.hart)) (is_none (omega (arith, one_more, at_most_one, d_low, same)));
    goes = λ le lt differ. so_many le lt ∙ ap (λ b. cond b (Some e.hart) (Some d.hart)) (is_one (omega (arith, at_most_one, moved differ)));
  }

-- ---- from the start of a round

-- what is shared once the stores of these rounds are committed and the harts before hart i had their turns
abbrev pub reserving_phase_before : {H C : Type 0} → Words H C → ℕ → State H C → List (HartRound H) → List (Option Span) → ℕ → ReservingPhase H C
reserving_phase_before w budget s rs reservations i =
    reserving_phase_from w budget (s.rounds + 1) 0 (take i rs) (record { harts = []; bytes = after s.bytes (all_stores rs); console = s.console; reservations = committed_reservations 0 rs reservations; log = [] })

-- the turn over the list of a hart, after so many instructions of its turn there
abbrev pub reserving_turn_there : {H C : Type 0} → Words H C → ℕ → State H C → List (HartRound H) → List (Option Span) → ℕ → H → ℕ → ReservingTurn H C
reserving_turn_there w budget s rs reservations i h count = reserving_turn_from w (s.rounds + 1) i count (start_of h (reserving_phase_before w budget s rs reservations i))

take_length : {A : Type 0} (i : ℕ) (xs : List A) → length (take i xs) ≤ length xs
take_length zero xs = omega arith
take_length (suc i) [] = omega arith
take_length (suc i) (x ∷ xs) = omega (arith, take_length i xs)

module _ {H C : Type 0} (w : Words H C) (sound : Sound w) (done : H → ℕ) (counts : Counts w done) (budget i count k : ℕ) (s : State H C) (qs : List ℕ) (reservations : List (Option Span)) (r : HartRound H)
    (tied : Tied reservations s.trace) (size : length reservations ≡ length s.harts) (bytes : IsBytes s.bytes) (there : i < length s.harts) (waits : r.waits ≡ true)
    (few : count ≤ budget) (small : budget < 2 ^ 63) (low : done r.last.hart < 2 ^ 64) (k_low : k < 2 ^ 64) where
  abbrev rounds : List (HartRound H)
  rounds = hart_rounds w s.bytes qs s.harts

  abbrev ready : ReservingPhase H C
  ready = record { harts = []; bytes = after s.bytes (all_stores rounds); console = s.console; reservations = committed_reservations 0 rounds reservations; log = [] }

  abbrev front : List Event
  front = s.trace ++ events_from (s.rounds + 1) 0 rounds

  abbrev reserving_phase : ReservingPhase H C
  reserving_phase = reserving_phase_before w budget s rounds reservations i

  ready_tied : Tied ready.reservations (front ++ log_events (s.rounds + 1) 0 ready.log)
  ready_tied = subst (Tied ready.reservations) (sym (append-nil front)) (commit_ties w sound s.bytes bytes (s.rounds + 1) qs s.harts reservations ready.reservations s.trace tied (commits rounds reservations))

  before : Before w budget (s.rounds + 1) i rounds front ready
  before = before_is w budget (s.rounds + 1) i rounds front ready ready_tied refl (omega (arith, take_length i rounds, rounds_length w s.bytes qs s.harts, size, (commits rounds reservations).size))

  -- the state in which the turn begins
  begun : before_turn w budget s rounds i ≡ told front (s.rounds + 1) reserving_phase
  begun =
      ap (λ (t : List Event). serial_from w budget 0 (take i rounds) (record { harts = []; bytes = ready.bytes; console = ready.console; trace = t; rounds = s.rounds + 1 })) (sym (append-nil front))
      ∙ before.same

  abbrev trace : List Event
  trace = front ++ log_events (s.rounds + 1) 0 reserving_phase.log

  abbrev start : Turn H C
  start = record { hart = r.last.hart; bytes = reserving_phase.bytes; console = reserving_phase.console; trace = trace }

  abbrev reserving_turn : ReservingTurn H C
  reserving_turn = reserving_turn_there w budget s rounds reservations i r.last.hart count

  in_reservations : i < length reserving_phase.reservations
  in_reservations = omega (arith, there, size, before.size, (commits rounds reservations).size)

  two_turns : TurnsThere w (s.rounds + 1) i count 1 r.last.hart trace reserving_phase
  two_turns = turns_there w (s.rounds + 1) i count 1 r.last.hart trace reserving_phase before.tied in_reservations
      (turn_size w trace (s.rounds + 1) i count (start_of r.last.hart reserving_phase) (subst (Tied reserving_phase.reservations) (sym (append-nil trace)) before.tied) in_reservations)

  whole_turn_is : turn_of_waiting w budget (before_turn w budget s rounds i) i r ≡ turns_from w (s.rounds + 1) i budget start
  whole_turn_is =
      ap (λ (z : State H C). turn_of_waiting w budget z i r) begun
      ∙ ap (λ (b : Bool). turns_from w (s.rounds + 1) i (cond b budget 0) start) waits

  pub asked_there : done reserving_turn.hart ≡ (done r.last.hart + k) % 2 ^ 64 →
      TurnAsked done budget count k (turn_of_waiting w budget (before_turn w budget s rounds i) i r) reserving_turn (reserving_turn_from w (s.rounds + 1) i 1 (again reserving_turn))
  asked_there by_k =
      let second : turn_from w (s.rounds + 1) i 1 (turn_from w (s.rounds + 1) i count start) ≡ shown (s.rounds + 1) i _ (reserving_turn_from w (s.rounds + 1) i 1 (again reserving_turn)) =
      ap (turn_from w (s.rounds + 1) i 1) two_turns.first ∙ two_turns.second in
      subst (λ (xs : List H). TurnAsked done budget count k xs reserving_turn (reserving_turn_from w (s.rounds + 1) i 1 (again reserving_turn))) (sym whole_turn_is)
      (turn_asked w done counts (s.rounds + 1) i budget count k start reserving_turn (reserving_turn_from w (s.rounds + 1) i 1 (again reserving_turn)) few small low k_low by_k
      (ap (λ (v : Turn H C). v.hart) two_turns.first) (ap (λ (v : Turn H C). v.hart) second))

-- ---- of a hart's whole round

-- a hart that begins the round as h, and whose part of the parallel phase does k instructions and ends as r
pub record HartAsked {H C : Type 0} (w : Words H C) (budget : ℕ) (quotas : ℕ → List ℕ) (s : State H C) (i count k : ℕ) (h : H) (r : HartRound H) : Type 0 where
  pub early : count < k → hart_after w budget quotas s i count ≡ Some (hart_round_of w s.bytes count h).last.hart
  pub at_end : r.waits ≡ false → count ≡ k → hart_after w budget quotas s i count ≡ Some r.last.hart
  pub beyond : r.waits ≡ false → k < count → hart_after w budget quotas s i count ≡ None
  pub over : k + budget < count → hart_after w budget quotas s i count ≡ None
  pub in_turn : k ≤ count → hart_after w budget quotas s i count ≡ slice_get (turn_of_waiting w budget (before_turn w budget s (hart_rounds w s.bytes (quotas s.rounds) s.harts) i) i r) (count - k)

past_end : {A : Type 0} (xs : List A) (i : ℕ) → length xs ≤ i → slice_get xs i ≡ None
past_end [] i le = refl
past_end (x ∷ xs) zero le = absurd (omega (arith, le))
past_end (x ∷ xs) (suc i) le = past_end xs i (omega (arith, le))

module _ {H C : Type 0} (w : Words H C) (done : H → ℕ) (counts : Counts w done) (budget : ℕ) (quotas : ℕ → List ℕ) (s : State H C) (i count k : ℕ) (h : H)
    (there : slice_get s.harts i ≡ Some h) (small : slice_index (quotas s.rounds) i < 2 ^ 63) (low : done h < 2 ^ 64) (k_low : k < 2 ^ 64)
    (by_k : done (hart_round_of w s.bytes (slice_index (quotas s.rounds) i) h).last.hart ≡ (done h + k) % 2 ^ 64) where
  abbrev quota : ℕ
  quota = slice_index (quotas s.rounds) i

  abbrev part : HartRound H
  part = hart_round_of w s.bytes quota h

  abbrev state_there : State H C
  state_there = before_turn w budget s (hart_rounds w s.bytes (quotas s.rounds) s.harts) i

  abbrev turns : List H
  turns = turn_of_waiting w budget state_there i part

  did_k : k ≡ steps_from w s.bytes quota (began h)
  did_k = omega (arith, small, low, k_low, by_k, counts_steps w done counts s.bytes quota (began h) low, (parts_are w s.bytes quota (began h)).within)

  is_past : hart_after w budget quotas s i count ≡ slice_get (goes_on_with (parts_from w s.bytes quota (began h)) turns) count
  is_past = ap (λ (xs : List H). slice_get xs count) (past_is w budget quotas s i h there)

  from_turn : k ≤ count → hart_after w budget quotas s i count ≡ slice_get turns (count - k)
  from_turn le =
      let split : count ≡ steps_from w s.bytes quota (began h) + (count - k) = omega (arith, le, did_k) in
      is_past ∙ ap (λ (c : ℕ). slice_get (goes_on_with (parts_from w s.bytes quota (began h)) turns) c) split ∙ late w s.bytes quota (began h) turns (count - k)

  turn_length : length turns ≤ suc (cond part.waits budget 0)
  turn_length =
      let p : Turn H C = record { hart = part.last.hart; bytes = state_there.bytes; console = state_there.console; trace = state_there.trace } in
      let t = turns_are w state_there.rounds i (cond part.waits budget 0) p in
      omega (arith, t.size, t.within)

  most : (b : Bool) → cond b budget 0 ≤ budget
  most true = omega arith
  most false = omega arith

  no_turn : part.waits ≡ false → turns ≡ part.last.hart ∷ []
  unfolding turns_from
  no_turn e = ap (λ (b : Bool). turns_from w state_there.rounds i (cond b budget 0) (record { hart = part.last.hart; bytes = state_there.bytes; console = state_there.console; trace = state_there.trace })) e

  pub hart_asked : HartAsked w budget quotas s i count k h part
  hart_asked = record {
    early = λ lt. is_past ∙ early w s.bytes quota (began h) turns count (omega (arith, lt, did_k));
    at_end = λ e same.
        let zero_more : count - k ≡ 0 = omega (arith, same) in
        from_turn (omega (arith, same)) ∙ ap (λ (c : ℕ). slice_get turns c) zero_more ∙ ap (λ (xs : List H). slice_get xs 0) (no_turn e);
    beyond = λ e lt. from_turn (omega (arith, lt)) ∙ past_end turns (count - k) (omega (arith, lt, ap length (no_turn e)));
    over = λ lt. from_turn (omega (arith, lt)) ∙ past_end turns (count - k) (omega (arith, lt, turn_length, most part.waits));
    in_turn = from_turn;
  }
