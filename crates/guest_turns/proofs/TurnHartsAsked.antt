-- The harts along the turns of a round are what the harts' pasts end with.
use Rattle.std.proofs.Common.{◌≡◌, ℕ, zero, suc, ◌+◌, ◌-◌, ◌<◌, ◌≤◌, ◌^◌, ◌%◌, Bool, true, false, cond, List, [], ◌∷◌, length, drop, take, slice_get, slice_index, Option, Some, refl, sym, ◌∙◌, ap, subst, arith}
use Rattle.pages.specs.declared.access.Range.{Range}
use Rattle.round_schedule.specs.declared.access.Stepped.{Stepped}
use Rattle.round_schedule.specs.declared.access.Stepped.TheVariants.{Done, Waits, Stopped}
use Rattle.round_schedule.specs.Past.{before_turn, goes_on_with, hart_after, parts_from, past_of, turn_of_waiting, turns_from}
use Rattle.round_schedule.specs.Schedule.{HartRound, State, Turn, Words, began, committed, hart_round_of, hart_rounds, joined, serial_from, serial_next, turn_of}
use Rattle.round_schedule.specs.Sound.{counted}
use Rattle.round_schedule.proofs.PastAnswers.{hart_asked}
use Rattle.round_schedule.proofs.PastAsking.{counts_steps}
use Rattle.round_schedule.proofs.PastEnds.{past_is, round_at, rounds_length}
use Rattle.round_schedule.proofs.PastParts.{parts_are, steps_from, turns_are}
use Rattle.hart_step.specs.declared.hart.Hart.{Hart}
use Rattle.hart_step.specs.Console.{ConsoleState}
use Rattle.hart_step.specs.Numbers.{minus}
use Rattle.hart_step.specs.Words.{words_of}
use Rattle.hart_step.proofs.Soundness.{counts_done}
use Rattle.guest_turns.specs.TurnHarts.{TurnsEndThePast, turns_in_phase, turns_in_round}

abbrev there : {X : Type 0} → X → Option X
there x = Some x

some_is : {X : Type 0} (x y : X) → there x ≡ there y → x ≡ y
some_is x y e = cc

-- ---- hart by hart

phase_size : {H C : Type 0} (w : Words H C) (budget j : ℕ) (rs : List (HartRound H)) (s : State H C) → length (turns_in_phase w budget j rs s) ≡ length rs
phase_size w budget j [] s = refl
phase_size w budget j (r ∷ rs) s = ap suc (phase_size w budget (suc j) rs (joined s (turn_of w budget s j r)))

-- as many lists as harts
pub turns_size : {H C : Type 0} (w : Words H C) (budget : ℕ) (quotas : ℕ → List ℕ) (s : State H C) → length (turns_in_round w budget quotas s) ≡ length s.harts
unfolding turns_in_round
turns_size w budget quotas s =
    phase_size w budget 0 (hart_rounds w s.bytes (quotas s.rounds) s.harts) (committed s (hart_rounds w s.bytes (quotas s.rounds) s.harts))
    ∙ rounds_length w s.bytes (quotas s.rounds) s.harts

turn_there : {H C : Type 0} (w : Words H C) (budget j i : ℕ) (rs : List (HartRound H)) (s : State H C) (r : HartRound H) → slice_get rs i ≡ Some r →
    slice_get (turns_in_phase w budget j rs s) i ≡ Some (turn_of_waiting w budget (serial_from w budget j (take i rs) s) (j + i) r)
turn_there w budget j i [] s r e = absurd cc
turn_there w budget j zero (x ∷ rs) s r e =
    let number : j + 0 ≡ j = omega arith in
    let same : x ≡ r = some_is x r e in
    rw (number, ← same) refl
turn_there w budget j (suc i) (x ∷ rs) s r e =
    let number : j + suc i ≡ suc j + i = omega arith in
    rw number (turn_there w budget (suc j) i rs (joined s (turn_of w budget s j x)) r e)

-- the turn of a hart that begins the round as h
pub turn_is : {H C : Type 0} (w : Words H C) (budget : ℕ) (quotas : ℕ → List ℕ) (s : State H C) (i : ℕ) (h : H) → slice_get s.harts i ≡ Some h →
    slice_get (turns_in_round w budget quotas s) i
    ≡ Some (turn_of_waiting w budget (before_turn w budget s (hart_rounds w s.bytes (quotas s.rounds) s.harts) i) i (hart_round_of w s.bytes (slice_index (quotas s.rounds) i) h))
unfolding turns_in_round
turn_is w budget quotas s i h e =
    let rs = hart_rounds w s.bytes (quotas s.rounds) s.harts in
    let r = hart_round_of w s.bytes (slice_index (quotas s.rounds) i) h in
    let number : 0 + i ≡ i = omega arith in
    turn_there w budget 0 i rs (committed s rs) r (round_at w s.bytes (quotas s.rounds) s.harts i h e)
    ∙ ap (λ (k : ℕ). there (turn_of_waiting w budget (before_turn w budget s rs i) k r)) number

-- ---- the end of the past

dropped : {H : Type 0} (xs ys : List H) (k : ℕ) → length xs ≡ suc k → drop k (goes_on_with xs ys) ≡ ys
dropped [] ys k e = absurd (omega (arith, e))
dropped (x ∷ []) ys zero e = refl
dropped (x ∷ []) ys (suc k) e = absurd (omega (arith, e))
dropped (x ∷ y ∷ xs) ys zero e = absurd (omega (arith, e))
dropped (x ∷ y ∷ xs) ys (suc k) e = dropped (y ∷ xs) ys k (omega (arith, e))

pub turns_end : (H C : Type 0) → TurnsEndThePast H C
turns_end H C = λ w budget quotas s i h e.
    let part = parts_from w s.bytes (slice_index (quotas s.rounds) i) (began h) in
    let steps = steps_from w s.bytes (slice_index (quotas s.rounds) i) (began h) in
    let size : length part ≡ suc steps = (parts_are w s.bytes (slice_index (quotas s.rounds) i) (began h)).size in
    let less : length part - 1 ≡ steps = omega (arith, size) in
    turn_is w budget quotas s i h e
    ∙ ap (λ (hs : List H). there hs)
    (sym (dropped part _ steps size) ∙ ap (drop steps) (sym (past_is w budget quotas s i h e)) ∙ ap (λ (k : ℕ). drop k (past_of w budget quotas s i)) (sym less))

-- ---- by the counts of the harts

first_by : (code : List Range) (n i k : ℕ) (p : Turn Hart ConsoleState) (g : Hart) (stopped : Bool) (a : Stepped) → (words_of code).stopped p.hart ≡ stopped → (serial_next (words_of code) n i p).answer ≡ a →
    slice_get (turns_from (words_of code) n i (suc k) p) 0 ≡ Some g → g.done ≡ p.hart.done
unfolding turns_from
first_by code n i k p g true a hs ha = rw hs (λ e. ap (λ (h : Hart). h.done) (sym (some_is p.hart g e)))
first_by code n i k p g false (Done a) hs ha = rw (hs, ha) (λ e. ap (λ (h : Hart). h.done) (sym (some_is p.hart g e)))
first_by code n i k p g false Waits hs ha =
    let o = serial_next (words_of code) n i p in
    let c : o.hart.done ≡ counted Waits p.hart.done = subst (λ (y : Stepped). o.hart.done ≡ counted y p.hart.done) ha ((counts_done code).serial_counts n p.hart p.bytes p.console _) in
    rw (hs, ha) (λ e. ap (λ (h : Hart). h.done) (sym (some_is o.hart g e)) ∙ c)
first_by code n i k p g false (Stopped z) hs ha =
    let o = serial_next (words_of code) n i p in
    let c : o.hart.done ≡ counted (Stopped z) p.hart.done = subst (λ (y : Stepped). o.hart.done ≡ counted y p.hart.done) ha ((counts_done code).serial_counts n p.hart p.bytes p.console _) in
    rw (hs, ha) (λ e. ap (λ (h : Hart). h.done) (sym (some_is o.hart g e)) ∙ c)

-- the first of them has done as many instructions as the hart had before its turn
first_done : (code : List Range) (n i k : ℕ) (p : Turn Hart ConsoleState) (g : Hart) → slice_get (turns_from (words_of code) n i k p) 0 ≡ Some g → g.done ≡ p.hart.done
unfolding turns_from
first_done code n i zero p g e = ap (λ (h : Hart). h.done) (sym (some_is p.hart g e))
first_done code n i (suc k) p g e = first_by code n i k p g ((words_of code).stopped p.hart) (serial_next (words_of code) n i p).answer refl refl e

wrapped : (a b : ℕ) → a < 2 ^ 64 → b < 2 ^ 64 → b ≡ (a + minus b a) % 2 ^ 64
wrapped a b x y = omega arith

-- hart i after so many instructions of the round, where these are the harts along its turn, of which the first is g
pub hart_in_turn : (code : List Range) (budget : ℕ) (quotas : ℕ → List ℕ) (s : State Hart ConsoleState) (i count : ℕ) (h g : Hart) (xs : List Hart) →
    slice_get s.harts i ≡ Some h → h.done < 2 ^ 64 → slice_index (quotas s.rounds) i ≤ 1000000 → slice_get (turns_in_round (words_of code) budget quotas s) i ≡ Some xs → slice_get xs 0 ≡ Some g →
    minus g.done h.done ≤ count → hart_after (words_of code) budget quotas s i count ≡ slice_get xs (count - minus g.done h.done)
hart_in_turn code budget quotas s i count h g xs e low few at_i at_first le =
    let w = words_of code in
    let quota = slice_index (quotas s.rounds) i in
    let part = hart_round_of w s.bytes quota h in
    let before = before_turn w budget s (hart_rounds w s.bytes (quotas s.rounds) s.harts) i in
    let turn = turn_of_waiting w budget before i part in
    let same : turn ≡ xs = some_is turn xs (sym (turn_is w budget quotas s i h e) ∙ at_i) in
    let done : g.done ≡ part.last.hart.done =
    first_done code before.rounds i (cond part.waits budget 0) (record { hart = part.last.hart; bytes = before.bytes; console = before.console; trace = before.trace }) g (ap (λ (hs : List Hart). slice_get hs 0) same ∙ at_first) in
    let steps = counts_steps w (λ (f : Hart). f.done) (counts_done code) s.bytes quota (began h) low in
    let part_low : part.last.hart.done < 2 ^ 64 = omega (arith, steps) in
    let by_count : minus g.done h.done ≡ minus part.last.hart.done h.done = ap (λ (k : ℕ). minus k h.done) done in
    let asked = hart_asked w (λ (f : Hart). f.done) (counts_done code) budget quotas s i count (minus part.last.hart.done h.done) h e (omega (arith, few)) low (omega arith) (wrapped h.done part.last.hart.done low part_low) in
    asked.in_turn (omega (arith, le, by_count))
    ∙ ap (λ (hs : List Hart). slice_get hs (count - minus part.last.hart.done h.done)) same
    ∙ ap (λ (k : ℕ). slice_get xs (count - k)) (sym by_count)

-- and at most as many as a turn may do instructions follow it
phase_few : {H C : Type 0} (w : Words H C) (budget j i : ℕ) (rs : List (HartRound H)) (s : State H C) (xs : List H) → slice_get (turns_in_phase w budget j rs s) i ≡ Some xs → length xs ≤ suc budget
phase_few w budget j i [] s xs e = absurd cc
phase_few {H} {C} w budget j zero (r ∷ rs) s xs e =
    let same : turn_of_waiting w budget s j r ≡ xs = some_is (turn_of_waiting w budget s j r) xs e in
    let t = turns_are w s.rounds j (cond r.waits budget 0) (record { hart = r.last.hart; bytes = s.bytes; console = s.console; trace = s.trace }) in
    omega (arith, t.size, t.within, most r.waits, ap length same)
  where
    most : (b : Bool) → cond b budget 0 ≤ budget
    most true = omega arith
    most false = omega arith
phase_few w budget j (suc i) (r ∷ rs) s xs e = phase_few w budget (suc j) i rs (joined s (turn_of w budget s j r)) xs e

pub turn_few : {H C : Type 0} (w : Words H C) (budget : ℕ) (quotas : ℕ → List ℕ) (s : State H C) (i : ℕ) (xs : List H) → slice_get (turns_in_round w budget quotas s) i ≡ Some xs → length xs ≤ suc budget
unfolding turns_in_round
turn_few w budget quotas s i xs e =
    phase_few w budget 0 i (hart_rounds w s.bytes (quotas s.rounds) s.harts) (committed s (hart_rounds w s.bytes (quotas s.rounds) s.harts)) xs e
