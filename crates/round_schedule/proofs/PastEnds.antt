-- The last of a hart's past in a round is the hart at the round's end.
use Rattle.std.proofs.Common.{◌≡◌, ℕ, zero, suc, ◌+◌, ◌<◌, ◌≤◌, cond, List, [], ◌∷◌, ◌++◌, length, take, slice_get, slice_index, Option, Some, None, refl, sym, ap, subst, ◌∙◌, arith, length-append}
use Rattle.round_schedule.specs.Schedule.{Words, HartRound, State, Turn, began, committed, first_or_zero, hart_round_of, hart_rounds, joined, rest_of, round_of, serial_from, turn_from, turn_of}
use Rattle.round_schedule.specs.Past.{PastEndsInRound, before_turn, goes_on_with, in_round, last_of, parts_from, past_of, turn_of_waiting, turns_from}
use Rattle.round_schedule.proofs.PastParts.{turn_steps, turns_are}

last_more : {H : Type 0} (x : H) (xs : List H) → 1 ≤ length xs → last_of (x ∷ xs) ≡ last_of xs
last_more x [] le = absurd (omega (arith, le))
last_more x (y ∷ ys) le = refl

goes_length : {H : Type 0} (xs ys : List H) → 1 ≤ length ys → 1 ≤ length (goes_on_with xs ys)
goes_length [] ys le = le
goes_length (x ∷ []) ys le = le
goes_length (x ∷ y ∷ xs) ys le = omega arith

last_goes : {H : Type 0} (xs ys : List H) → 1 ≤ length ys → last_of (goes_on_with xs ys) ≡ last_of ys
last_goes [] ys le = refl
last_goes (x ∷ []) ys le = refl
last_goes (x ∷ y ∷ xs) ys le = last_more x (goes_on_with (y ∷ xs) ys) (goes_length (y ∷ xs) ys le) ∙ last_goes (y ∷ xs) ys le

last_at : {H : Type 0} (xs : List H) (k : ℕ) → length xs ≡ suc k → last_of xs ≡ slice_get xs k
last_at [] k e = absurd (omega (arith, e))
last_at (x ∷ []) zero e = refl
last_at (x ∷ []) (suc k) e = absurd (omega (arith, e))
last_at (x ∷ y ∷ xs) zero e = absurd (omega (arith, e))
last_at (x ∷ y ∷ xs) (suc k) e = last_at (y ∷ xs) k (omega (arith, e))

-- the last of a turn is where it ends
pub last_of_turn : {H C : Type 0} (w : Words H C) (n i k : ℕ) (p : Turn H C) (xs : List H) → last_of (goes_on_with xs (turns_from w n i k p)) ≡ Some (turn_from w n i k p).hart
last_of_turn w n i k p xs =
    let t = turns_are w n i k p in
    last_goes xs (turns_from w n i k p) (omega (arith, t.size)) ∙ last_at (turns_from w n i k p) (turn_steps w n i k p) t.size ∙ t.at_end

-- ---- the hart of a number after all turns

before_push : {H : Type 0} (xs : List H) (x : H) (k : ℕ) → k < length xs → slice_get (xs ++ x ∷ []) k ≡ slice_get xs k
before_push [] x k lt = absurd (omega (arith, lt))
before_push (y ∷ ys) x zero lt = refl
before_push (y ∷ ys) x (suc k) lt = before_push ys x k (omega (arith, lt))

at_push : {H : Type 0} (xs : List H) (x : H) → slice_get (xs ++ x ∷ []) (length xs) ≡ Some x
at_push [] x = refl
at_push (y ∷ ys) x = at_push ys x

kept : {H C : Type 0} (w : Words H C) (budget j : ℕ) (rs : List (HartRound H)) (s : State H C) (k : ℕ) → k < length s.harts → slice_get (serial_from w budget j rs s).harts k ≡ slice_get s.harts k
kept w budget j [] s k lt = refl
kept w budget j (r ∷ rs) s k lt =
    let p = turn_of w budget s j r in
    kept w budget (suc j) rs (joined s p) k (omega (arith, lt, length-append s.harts (p.hart ∷ []))) ∙ before_push s.harts p.hart k lt

abbrev there : {X : Type 0} → X → Option X
there x = Some x

some_is : {X : Type 0} (x y : X) → there x ≡ there y → x ≡ y
some_is x y e = cc

pub hart_there : {H C : Type 0} (w : Words H C) (budget j i : ℕ) (rs : List (HartRound H)) (s : State H C) (r : HartRound H) → slice_get rs i ≡ Some r →
    slice_get (serial_from w budget j rs s).harts (length s.harts + i) ≡ Some (turn_of w budget (serial_from w budget j (take i rs) s) (j + i) r).hart
hart_there w budget j i [] s r e = absurd cc
hart_there {H} {C} w budget j zero (x ∷ rs) s r e =
    let p = turn_of w budget s j x in
    let here : length s.harts + 0 ≡ length s.harts = omega arith in
    let number : j + 0 ≡ j = omega arith in
    let same : x ≡ r = some_is x r e in
    rw (here, number, ← same) (kept w budget (suc j) rs (joined s p) (length s.harts) (omega (arith, length-append s.harts (p.hart ∷ []))) ∙ at_push s.harts p.hart)
hart_there {H} {C} w budget j (suc i) (x ∷ rs) s r e =
    let p = turn_of w budget s j x in
    let place : length s.harts + suc i ≡ length (joined s p).harts + i = omega (arith, length-append s.harts (p.hart ∷ [])) in
    let number : j + suc i ≡ suc j + i = omega arith in
    rw (place, number) (hart_there w budget (suc j) i rs (joined s p) r e)

-- ---- the rounds of all harts

pub rounds_length : {H C : Type 0} (w : Words H C) (bs qs : List ℕ) (hs : List H) → length (hart_rounds w bs qs hs) ≡ length hs
rounds_length w bs qs [] = refl
rounds_length w bs qs (h ∷ hs) = ap suc (rounds_length w bs (rest_of qs) hs)

first_is : (qs : List ℕ) → first_or_zero qs ≡ slice_index qs 0
first_is [] = refl
first_is (q ∷ qs) = refl

rest_is : (qs : List ℕ) (i : ℕ) → slice_index (rest_of qs) i ≡ slice_index qs (suc i)
rest_is [] i = refl
rest_is (q ∷ qs) i = refl

-- the round of hart i is by its own quota
pub round_at : {H C : Type 0} (w : Words H C) (bs qs : List ℕ) (hs : List H) (i : ℕ) (h : H) → slice_get hs i ≡ Some h →
    slice_get (hart_rounds w bs qs hs) i ≡ Some (hart_round_of w bs (slice_index qs i) h)
round_at w bs qs [] i h e = absurd cc
round_at w bs qs (g ∷ hs) zero h e =
    let same : g ≡ h = some_is g h e in
    rw same (ap (λ (q : ℕ). there (hart_round_of w bs q h)) (first_is qs))
round_at w bs qs (g ∷ hs) (suc i) h e = round_at w bs (rest_of qs) hs i h e ∙ ap (λ (q : ℕ). there (hart_round_of w bs q h)) (rest_is qs i)

serial_length : {H C : Type 0} (w : Words H C) (budget j : ℕ) (rs : List (HartRound H)) (s : State H C) → length (serial_from w budget j rs s).harts ≡ length s.harts + length rs
serial_length w budget j [] s = omega arith
serial_length w budget j (r ∷ rs) s =
    let p = turn_of w budget s j r in
    omega (arith, serial_length w budget (suc j) rs (joined s p), length-append s.harts (p.hart ∷ []))

-- ---- the law

-- the past of a hart that there is
pub past_is : {H C : Type 0} (w : Words H C) (budget : ℕ) (quotas : ℕ → List ℕ) (s : State H C) (i : ℕ) (h : H) → slice_get s.harts i ≡ Some h →
    past_of w budget quotas s i ≡ goes_on_with (parts_from w s.bytes (slice_index (quotas s.rounds) i) (began h))
    (turn_of_waiting w budget (before_turn w budget s (hart_rounds w s.bytes (quotas s.rounds) s.harts) i) i (hart_round_of w s.bytes (slice_index (quotas s.rounds) i) h))
unfolding past_of
past_is {H} {C} w budget quotas s i h e =
    let rs = hart_rounds w s.bytes (quotas s.rounds) s.harts in
    ap (λ (g : Option H). in_round w budget (slice_index (quotas s.rounds) i) s rs i g (slice_get rs i)) e
    ∙ ap (λ (r : Option (HartRound H)). in_round w budget (slice_index (quotas s.rounds) i) s rs i (Some h) r) (round_at w s.bytes (quotas s.rounds) s.harts i h e)

pub no_past : {H C : Type 0} (w : Words H C) (budget : ℕ) (quotas : ℕ → List ℕ) (s : State H C) (i : ℕ) → slice_get s.harts i ≡ None → past_of w budget quotas s i ≡ []
unfolding past_of
no_past {H} {C} w budget quotas s i e =
    let rs = hart_rounds w s.bytes (quotas s.rounds) s.harts in
    ap (λ (g : Option H). in_round w budget (slice_index (quotas s.rounds) i) s rs i g (slice_get rs i)) e

none_past : {A : Type 0} (xs : List A) (i : ℕ) → length xs ≤ i → slice_get xs i ≡ None
none_past [] i le = refl
none_past (x ∷ xs) zero le = absurd (omega (arith, le))
none_past (x ∷ xs) (suc i) le = none_past xs i (omega (arith, le))

past_none : {A : Type 0} (xs : List A) (i : ℕ) → slice_get xs i ≡ None → length xs ≤ i
past_none [] i e = omega arith
past_none (x ∷ xs) zero e = absurd cc
past_none (x ∷ xs) (suc i) e = omega (arith, past_none xs i e)

module _ {H C : Type 0} (w : Words H C) (budget : ℕ) (quotas : ℕ → List ℕ) (s : State H C) (i : ℕ) where
  by_hart : (g : Option H) → slice_get s.harts i ≡ g → last_of (past_of w budget quotas s i) ≡ slice_get (round_of w budget quotas s).harts i
  unfolding round_of
  by_hart None e =
      let rs = hart_rounds w s.bytes (quotas s.rounds) s.harts in
      ap last_of (no_past w budget quotas s i e)
      ∙ sym (none_past (serial_from w budget 0 rs (committed s rs)).harts i
      (omega (arith, serial_length w budget 0 rs (committed s rs), rounds_length w s.bytes (quotas s.rounds) s.harts, past_none s.harts i e)))
  by_hart (Some h) e =
      let rs = hart_rounds w s.bytes (quotas s.rounds) s.harts in
      let quota = slice_index (quotas s.rounds) i in
      let r = hart_round_of w s.bytes quota h in
      let front = before_turn w budget s rs i in
      let zero_i : 0 + i ≡ i = omega arith in
      ap last_of (past_is w budget quotas s i h e)
      ∙ last_of_turn w front.rounds i (cond r.waits budget 0) (record { hart = r.last.hart; bytes = front.bytes; console = front.console; trace = front.trace }) (parts_from w s.bytes quota (began h))
      ∙ sym (subst (λ (j : ℕ). slice_get (serial_from w budget 0 rs (committed s rs)).harts j ≡ Some (turn_of w budget front j r).hart) zero_i
      (hart_there w budget 0 i rs (committed s rs) r (round_at w s.bytes (quotas s.rounds) s.harts i h e)))

pub past_ends : (H C : Type 0) → PastEndsInRound H C
past_ends H C = λ w budget quotas s i. by_hart w budget quotas s i (slice_get s.harts i) refl
