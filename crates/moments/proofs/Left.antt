-- The events of the moves are those of the schedule.
use Rattle.std.proofs.Common.{◌≡◌, ℕ, zero, suc, ◌+◌, Bool, true, false, cond, List, [], ◌∷◌, ◌++◌, Option, option_to_list, refl, sym, ◌∙◌, ap, append_assoc, append-nil}
use Rattle.std.proofs.lemmas.List.Concat.{flat_map-append}
use Rattle.pages.specs.Memory.{after}
use Rattle.pages.proofs.StoreLaws.{after-append}
use Rattle.round_schedule.specs.declared.access.Access.{Access}
use Rattle.round_schedule.specs.declared.access.Stepped.{Stepped}
use Rattle.round_schedule.specs.declared.access.Stepped.TheVariants.{Done, Waits, Stopped}
use Rattle.round_schedule.specs.declared.event.Event.{Event}
use Rattle.round_schedule.specs.declared.event.Phase.TheVariants.{Parallel, Serial}
use Rattle.round_schedule.specs.Events.{events_of}
use Rattle.round_schedule.specs.Schedule.{Words, HartRound, StepOutcome, Progress, State, Turn, began, committed, events_from, first_or_zero, hart_round_of, hart_rounds, joined, next_of, rest_of, round_from, round_of, serial_from, serial_next, turn_from, turn_of, turn_went, went}
use Rattle.round_schedule.proofs.Runs.{events_of-append}
use Rattle.moments.specs.Sights.{Sight, seen_after, turn_start}
use Rattle.moments.specs.Moves.{events_left, left_by, moves_of, moves_over, part_moves, parts_moves, turn_moves, turns_moves}
use Rattle.moments.specs.Laws.{MovesLeaveTheTrace}

-- ---- one part

-- what a hart sees that is so far in its part
abbrev pub sight_in : {H : Type 0} → List ℕ → Progress H → Sight H
sight_in bs p = record { hart = p.hart; bytes = after bs p.stores }

pub sight_goes : {H : Type 0} (bs : List ℕ) (p : Progress H) (o : StepOutcome H) (a : Option Access) → seen_after (sight_in bs p) o ≡ sight_in bs (went p o a)
sight_goes {H} bs p o a = ap (λ (cs : List ℕ). record { hart = o.hart; bytes = cs }) (sym (after-append bs p.stores o.stores))

module _ {H C : Type 0} (w : Words H C) (n i : ℕ) (bs : List ℕ) where
  abbrev part_events : Progress H → List Event
  part_events p = events_of n i Parallel p.accesses

  abbrev PartLeaves : ℕ → Progress H → Type 0
  PartLeaves k p = part_events p ++ events_left n (part_moves w i k (sight_in bs p)) ≡ part_events (round_from w bs k p).last

  part_first : (k : ℕ) (p : Progress H) (stopped : Bool) (a : Stepped) → w.stopped p.hart ≡ stopped → (next_of w bs p).answer ≡ a → ((q : Progress H) → PartLeaves k q) → PartLeaves (suc k) p
  unfolding part_moves round_from
  part_first k p true a hs ha ih = rw hs (append-nil (part_events p))
  part_first k p false Waits hs ha ih = rw (hs, ha) (append-nil (part_events p))
  part_first k p false (Stopped code) hs ha ih = rw (hs, ha) (append-nil (part_events p))
  part_first k p false (Done a) hs ha ih =
      let q : Progress H = went p (next_of w bs p) a in
      let more : part_events q ≡ part_events p ++ events_of n i Parallel (option_to_list a) = events_of-append n i Parallel p.accesses (option_to_list a) in
      rw (hs, ha)
      (ap (λ (s : Sight H). part_events p ++ (events_of n i Parallel (option_to_list a) ++ events_left n (part_moves w i k s))) (sight_goes bs p (next_of w bs p) a)
      ∙ sym (append_assoc (part_events p) (events_of n i Parallel (option_to_list a)) (events_left n (part_moves w i k (sight_in bs q))))
      ∙ ap (λ (es : List Event). es ++ events_left n (part_moves w i k (sight_in bs q))) (sym more)
      ∙ ih q)

  pub part_leaves : (k : ℕ) (p : Progress H) → PartLeaves k p
  unfolding part_moves round_from
  part_leaves zero p = append-nil (part_events p)
  part_leaves (suc k) p = part_first k p (w.stopped p.hart) (next_of w bs p).answer refl refl (λ q. part_leaves k q)

parts_leave : {H C : Type 0} (w : Words H C) (n : ℕ) (bs qs : List ℕ) (i : ℕ) (hs : List H) → events_left n (parts_moves w bs qs i hs) ≡ events_from n i (hart_rounds w bs qs hs)
parts_leave w n bs qs i [] = refl
parts_leave w n bs qs i (h ∷ hs) =
    flat_map-append (left_by n) (part_moves w i (first_or_zero qs) (sight_in bs (began h))) (parts_moves w bs (rest_of qs) (suc i) hs)
    ∙ ap (λ (es : List Event). es ++ events_left n (parts_moves w bs (rest_of qs) (suc i) hs)) (part_leaves w n i bs (first_or_zero qs) (began h))
    ∙ ap (λ (es : List Event). events_of n i Parallel (hart_round_of w bs (first_or_zero qs) h).last.accesses ++ es) (parts_leave w n bs (rest_of qs) (suc i) hs)

-- ---- one turn

module _ {H C : Type 0} (w : Words H C) (n i : ℕ) where
  abbrev TurnLeaves : ℕ → Turn H C → Type 0
  TurnLeaves k p = (turn_from w n i k p).trace ≡ p.trace ++ events_left n (turn_moves w n i k p)

  turn_first : (k : ℕ) (p : Turn H C) (stopped : Bool) (a : Stepped) → w.stopped p.hart ≡ stopped → (serial_next w n i p).answer ≡ a → ((q : Turn H C) → TurnLeaves k q) → TurnLeaves (suc k) p
  unfolding turn_moves turn_from
  turn_first k p true a hs ha ih = rw hs (sym (append-nil p.trace))
  turn_first k p false Waits hs ha ih = rw (hs, ha) (sym (append-nil p.trace))
  turn_first k p false (Stopped code) hs ha ih = rw (hs, ha) (sym (append-nil p.trace))
  turn_first k p false (Done a) hs ha ih =
      let q : Turn H C = turn_went n i p (serial_next w n i p) a in
      rw (hs, ha) (ih q ∙ append_assoc p.trace (events_of n i Serial (option_to_list a)) (events_left n (turn_moves w n i k q)))

  pub turn_leaves : (k : ℕ) (p : Turn H C) → TurnLeaves k p
  unfolding turn_moves turn_from
  turn_leaves zero p = sym (append-nil p.trace)
  turn_leaves (suc k) p = turn_first k p (w.stopped p.hart) (serial_next w n i p).answer refl refl (λ q. turn_leaves k q)

turns_leave : {H C : Type 0} (w : Words H C) (budget i : ℕ) (rs : List (HartRound H)) (s : State H C) → (serial_from w budget i rs s).trace ≡ s.trace ++ events_left s.rounds (turns_moves w budget i rs s)
turns_leave w budget i [] s = sym (append-nil s.trace)
turns_leave {H} {C} w budget i (r ∷ rs) s =
    let k = cond r.waits budget 0 in
    let ms = turn_moves w s.rounds i k (turn_start s r) in
    let rest = turns_moves w budget (suc i) rs (joined s (turn_of w budget s i r)) in
    turns_leave w budget (suc i) rs (joined s (turn_of w budget s i r))
    ∙ ap (λ (es : List Event). es ++ events_left s.rounds rest) (turn_leaves w s.rounds i k (turn_start s r))
    ∙ append_assoc s.trace (events_left s.rounds ms) (events_left s.rounds rest)
    ∙ ap (λ (es : List Event). s.trace ++ es) (sym (flat_map-append (left_by s.rounds) ms rest))

-- ---- a round

over : {H C : Type 0} (w : Words H C) (budget : ℕ) (qs : List ℕ) (s : State H C) →
    (serial_from w budget 0 (hart_rounds w s.bytes qs s.harts) (committed s (hart_rounds w s.bytes qs s.harts))).trace
    ≡ s.trace ++ events_left (s.rounds + 1) (moves_over w budget qs s (hart_rounds w s.bytes qs s.harts))
over {H} {C} w budget qs s =
    let rs : List (HartRound H) = hart_rounds w s.bytes qs s.harts in
    let ps = parts_moves w s.bytes qs 0 s.harts in
    let ts = turns_moves w budget 0 rs (committed s rs) in
    turns_leave w budget 0 rs (committed s rs)
    ∙ append_assoc s.trace (events_from (s.rounds + 1) 0 rs) (events_left (s.rounds + 1) ts)
    ∙ ap (λ (es : List Event). s.trace ++ (es ++ events_left (s.rounds + 1) ts)) (sym (parts_leave w (s.rounds + 1) s.bytes qs 0 s.harts))
    ∙ ap (λ (es : List Event). s.trace ++ es) (sym (flat_map-append (left_by (s.rounds + 1)) ps ts))

pub moves_leave : (H C : Type 0) → MovesLeaveTheTrace H C
unfolding round_of moves_of
moves_leave H C = λ w budget quotas s. over w budget (quotas s.rounds) s
