-- Where all harts have stopped, a round does nothing, and so does a run.
use Rattle.std.proofs.Common.{◌≡◌, ℕ, zero, suc, ◌+◌, Bool, true, false, if◌then◌else◌, List, [], ◌∷◌, ◌++◌, All, refl, sym, ap, ◌∙◌, arith, append_assoc}
use Rattle.std.proofs.lemmas.Bool.{false≢true}
use Rattle.std.proofs.lemmas.List.{append-nil}
use Rattle.std.proofs.lemmas.List.Elements.{All-head}
use Rattle.pages.specs.declared.access.Store.{Store}
use Rattle.pages.specs.Memory.{after}
use Rattle.round_schedule.specs.declared.event.Event.{Event}
use Rattle.round_schedule.specs.Schedule.{HartRound, State, Words, all_stores, began, by_answer, committed, ended, events_from, first_or_zero, hart_rounds, next_of, rest_of, round_from, round_of, run_of, serial_from, turn_from}
use Rattle.round_schedule.specs.Stopped.{StoppedRunsPass}

module _ {H C : Type 0} (w : Words H C) where
  picked : {A : Type 0} (b : Bool) (x y : A) → b ≡ true → (if b then x else y) ≡ x
  picked true x y e = refl
  picked false x y e = absurd (false≢true e)

  -- a stopped hart's round is where it began
  idle_round : (bs : List ℕ) (n : ℕ) (h : H) → w.stopped h ≡ true → round_from w bs n (began h) ≡ ended (began h) false
  unfolding round_from
  idle_round bs zero h e = refl
  idle_round bs (suc n) h e = picked (w.stopped h) (ended (began h) false) (by_answer (next_of w bs (began h)).answer (began h) (next_of w bs (began h)) (round_from w bs n)) e

  abbrev idle_rounds : List H → List (HartRound H)
  idle_rounds [] = []
  idle_rounds (h ∷ hs) = ended (began h) false ∷ idle_rounds hs

  rounds_are_idle : (bs qs : List ℕ) (hs : List H) → All (λ (h : H). w.stopped h ≡ true) hs → hart_rounds w bs qs hs ≡ idle_rounds hs
  rounds_are_idle bs qs [] a = refl
  rounds_are_idle bs qs (h ∷ hs) a =
      ap (λ (r : HartRound H). r ∷ hart_rounds w bs (rest_of qs) hs) (idle_round bs (first_or_zero qs) h (All-head (λ (g : H). w.stopped g ≡ true) h hs a))
      ∙ ap (λ (rs : List (HartRound H)). ended (began h) false ∷ rs) (rounds_are_idle bs (rest_of qs) hs (λ k d l. a (suc k) d (omega (arith, l))))

  no_stores : (hs : List H) → all_stores (idle_rounds hs) ≡ []
  no_stores [] = refl
  no_stores (h ∷ hs) = no_stores hs

  no_events : (n i : ℕ) (hs : List H) → events_from n i (idle_rounds hs) ≡ []
  no_events n i [] = refl
  no_events n i (h ∷ hs) = no_events n (suc i) hs

  abbrev at_rest : List H → List ℕ → C → List Event → ℕ → State H C
  at_rest hs bs c t n = record { harts = hs; bytes = bs; console = c; trace = t; rounds = n }

  -- a hart that doesn't wait has no turn
  no_turns : (budget i : ℕ) (hs gs : List H) (bs : List ℕ) (c : C) (t : List Event) (n : ℕ) →
      serial_from w budget i (idle_rounds hs) (at_rest gs bs c t n) ≡ at_rest (gs ++ hs) bs c t n
  unfolding turn_from
  no_turns budget i [] gs bs c t n = ap (λ (xs : List H). at_rest xs bs c t n) (sym (append-nil gs))
  no_turns budget i (h ∷ hs) gs bs c t n = no_turns budget (suc i) hs (gs ++ h ∷ []) bs c t n ∙ ap (λ (xs : List H). at_rest xs bs c t n) (append_assoc gs (h ∷ []) hs)

  round_passes : (budget : ℕ) (quotas : ℕ → List ℕ) (s : State H C) → All (λ (h : H). w.stopped h ≡ true) s.harts → round_of w budget quotas s ≡ record s { rounds = s.rounds + 1 }
  unfolding round_of
  round_passes budget quotas s a =
      ap (λ (rs : List (HartRound H)). serial_from w budget 0 rs (committed s rs)) (rounds_are_idle s.bytes (quotas s.rounds) s.harts a)
      ∙ ap (λ (z : State H C). serial_from w budget 0 (idle_rounds s.harts) z) commits
      ∙ no_turns budget 0 s.harts [] s.bytes s.console s.trace (s.rounds + 1)
    where
      commits : committed s (idle_rounds s.harts) ≡ at_rest [] s.bytes s.console s.trace (s.rounds + 1)
      commits =
          ap (λ (ss : List Store). at_rest [] (after s.bytes ss) s.console (s.trace ++ events_from (s.rounds + 1) 0 (idle_rounds s.harts)) (s.rounds + 1)) (no_stores s.harts)
          ∙ ap (λ (es : List Event). at_rest [] s.bytes s.console (s.trace ++ es) (s.rounds + 1)) (no_events (s.rounds + 1) 0 s.harts)
          ∙ ap (λ (es : List Event). at_rest [] s.bytes s.console es (s.rounds + 1)) (append-nil s.trace)

  run_passes : (budget : ℕ) (quotas : ℕ → List ℕ) (n : ℕ) (s : State H C) → All (λ (h : H). w.stopped h ≡ true) s.harts → run_of w budget quotas n s ≡ record s { rounds = s.rounds + n }
  unfolding run_of
  run_passes budget quotas zero s a = ap (λ (k : ℕ). at_rest s.harts s.bytes s.console s.trace k) (omega arith)
  run_passes budget quotas (suc n) s a =
      ap (run_of w budget quotas n) (round_passes budget quotas s a)
      ∙ run_passes budget quotas n (record s { rounds = s.rounds + 1 }) a
      ∙ ap (λ (k : ℕ). at_rest s.harts s.bytes s.console s.trace k) (omega arith)

pub stopped_runs_pass : (H C : Type 0) → StoppedRunsPass H C
stopped_runs_pass H C = λ w budget quotas n s a. run_passes w budget quotas n s a
