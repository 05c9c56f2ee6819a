-- What a hart was after each number of instructions of a round: its count rises by one, and there are as many as it did.
use Rattle.std.proofs.Common.{◌≡◌, ℕ, zero, suc, ◌+◌, ◌%◌, ◌^◌, ◌<◌, ◌≤◌, Bool, true, false, cond, List, [], ◌∷◌, length, slice_get, slice_index, Some, refl, sym, ap, ◌∙◌, subst, arith}
use Rattle.round_schedule.specs.declared.access.Stepped.{Stepped}
use Rattle.round_schedule.specs.declared.access.Stepped.TheVariants.{Done, Waits, Stopped}
use Rattle.round_schedule.specs.Schedule.{HartRound, Progress, State, Turn, Words, began, hart_round_of, hart_rounds, next_of, serial_next, went}
use Rattle.round_schedule.specs.Sound.{Counts, counted}
use Rattle.round_schedule.specs.Past.{before_turn, goes_on_with, gone, parts_from, past_of, turn_of_waiting, turns_from}
use Rattle.round_schedule.proofs.PastAsking.{counts_steps}
use Rattle.round_schedule.proofs.PastEnds.{past_is}
use Rattle.round_schedule.proofs.PastParts.{parts_are, steps_from, turn_steps, turns_are}

-- the counts of the list rise by one from this one on
abbrev Rises : {H : Type 0} → (H → ℕ) → ℕ → List H → Type 0
Rises done first [] = Unit {0}
Rises done first (x ∷ xs) = (done x ≡ first % 2 ^ 64) × Rises done (first + 1) xs

parts_rise : {H C : Type 0} (w : Words H C) (done : H → ℕ) → Counts w done → (bs : List ℕ) (n first : ℕ) (p : Progress H) → done p.hart ≡ first % 2 ^ 64 → Rises done first (parts_from w bs n p)
unfolding parts_from
parts_rise w done cs bs zero first p e = (e, tt)
parts_rise {H} {C} w done cs bs (suc n) first p e = by_first (parts_rise w done cs bs n) (w.stopped p.hart) (next_of w bs p).answer refl refl
  where
    by_first : (ih : (next : ℕ) (q : Progress H) → done q.hart ≡ next % 2 ^ 64 → Rises done next (parts_from w bs n q)) → (stopped : Bool) (a : Stepped) → w.stopped p.hart ≡ stopped → (next_of w bs p).answer ≡ a → Rises done first (parts_from w bs (suc n) p)
    by_first ih true a hs ha = rw hs (e, tt)
    by_first ih false Waits hs ha =
        let c : done (next_of w bs p).hart ≡ counted Waits (done p.hart) = subst (λ (y : Stepped). done (next_of w bs p).hart ≡ counted y (done p.hart)) ha (cs.step_counts p.hart _) in
        rw (hs, ha) (c ∙ e, tt)
    by_first ih false (Stopped code) hs ha =
        let c : done (next_of w bs p).hart ≡ counted (Stopped code) (done p.hart) = subst (λ (y : Stepped). done (next_of w bs p).hart ≡ counted y (done p.hart)) ha (cs.step_counts p.hart _) in
        rw (hs, ha) (c ∙ e, tt)
    by_first ih false (Done a) hs ha =
        let c : done (next_of w bs p).hart ≡ counted (Done a) (done p.hart) = subst (λ (y : Stepped). done (next_of w bs p).hart ≡ counted y (done p.hart)) ha (cs.step_counts p.hart _) in
        rw (hs, ha) (e, ih (first + 1) (went p (next_of w bs p) a) (omega (arith, c, e)))

turns_rise : {H C : Type 0} (w : Words H C) (done : H → ℕ) → Counts w done → (n i k first : ℕ) (p : Turn H C) → done p.hart ≡ first % 2 ^ 64 → Rises done first (turns_from w n i k p)
unfolding turns_from
turns_rise w done cs n i zero first p e = (e, tt)
turns_rise {H} {C} w done cs n i (suc k) first p e = by_first (turns_rise w done cs n i k) (w.stopped p.hart) (serial_next w n i p).answer refl refl
  where
    by_first : (ih : (next : ℕ) (q : Turn H C) → done q.hart ≡ next % 2 ^ 64 → Rises done next (turns_from w n i k q)) → (stopped : Bool) (a : Stepped) → w.stopped p.hart ≡ stopped → (serial_next w n i p).answer ≡ a → Rises done first (turns_from w n i (suc k) p)
    by_first ih true a hs ha = rw hs (e, tt)
    by_first ih false Waits hs ha =
        let c : done (serial_next w n i p).hart ≡ counted Waits (done p.hart) = subst (λ (y : Stepped). done (serial_next w n i p).hart ≡ counted y (done p.hart)) ha (cs.serial_counts n p.hart _ _ _) in
        rw (hs, ha) (c ∙ e, tt)
    by_first ih false (Stopped code) hs ha =
        let c : done (serial_next w n i p).hart ≡ counted (Stopped code) (done p.hart) = subst (λ (y : Stepped). done (serial_next w n i p).hart ≡ counted y (done p.hart)) ha (cs.serial_counts n p.hart _ _ _) in
        rw (hs, ha) (c ∙ e, tt)
    by_first ih false (Done a) hs ha =
        let c : done (serial_next w n i p).hart ≡ counted (Done a) (done p.hart) = subst (λ (y : Stepped). done (serial_next w n i p).hart ≡ counted y (done p.hart)) ha (cs.serial_counts n p.hart _ _ _) in
        rw (hs, ha) (e, ih (first + 1) (gone n i a p (serial_next w n i p)) (omega (arith, c, e)))

-- ---- one list after the other

both_rise : {H : Type 0} (done : H → ℕ) (first k : ℕ) (xs ys : List H) → length xs ≡ suc k → Rises done first xs → Rises done (first + k) ys → Rises done first (goes_on_with xs ys)
both_rise done first k [] ys e a b = absurd (omega (arith, e))
both_rise done first k (x ∷ []) ys e a b = let same : first + k ≡ first = omega (arith, e) in subst (λ (n : ℕ). Rises done n ys) same b
both_rise done first zero (x ∷ y ∷ xs) ys e a b = absurd (omega (arith, e))
both_rise done first (suc k) (x ∷ y ∷ xs) ys e a b =
    let same : first + suc k ≡ first + 1 + k = omega arith in
    (a.0, both_rise done (first + 1) k (y ∷ xs) ys (omega (arith, e)) a.1 (subst (λ (n : ℕ). Rises done n ys) same b))

both_long : {H : Type 0} (k : ℕ) (xs ys : List H) → length xs ≡ suc k → length (goes_on_with xs ys) ≡ k + length ys
both_long k [] ys e = absurd (omega (arith, e))
both_long k (x ∷ []) ys e = omega (arith, e)
both_long zero (x ∷ y ∷ xs) ys e = absurd (omega (arith, e))
both_long (suc k) (x ∷ y ∷ xs) ys e = omega (arith, both_long k (y ∷ xs) ys (omega (arith, e)))

-- ---- what is at each place

at_each : {H : Type 0} (done : H → ℕ) (first : ℕ) (xs : List H) (k : ℕ) → Rises done first xs → k < length xs → (g : H) × (slice_get xs k ≡ Some g) × (done g ≡ (first + k) % 2 ^ 64)
at_each done first [] k r lt = absurd (omega (arith, lt))
at_each done first (x ∷ xs) zero r lt = let same : first ≡ first + 0 = omega arith in (x, refl, r.0 ∙ ap (λ (n : ℕ). n % 2 ^ 64) same)
at_each done first (x ∷ xs) (suc k) r lt =
    let rest = at_each done (first + 1) xs k r.1 (omega (arith, lt)) in
    let same : first + 1 + k ≡ first + suc k = omega arith in
    (rest.0, rest.1, rest.2 ∙ ap (λ (n : ℕ). n % 2 ^ 64) same)

few_turns : (b : Bool) (budget : ℕ) → cond b budget 0 ≤ budget
few_turns true budget = omega arith
few_turns false budget = omega arith

-- the list has a hart for each number of instructions up to the count, and none beyond
pub record Past {H : Type 0} (done : H → ℕ) (first most : ℕ) (xs : List H) : Type 0 where
  pub count : ℕ
  pub few : count ≤ most
  pub size : length xs ≡ suc count
  pub each : (k : ℕ) → k ≤ count → (g : H) × (slice_get xs k ≡ Some g) × (done g ≡ (first + k) % 2 ^ 64)

-- the past of a hart in a round
pub past_rises : {H C : Type 0} (w : Words H C) (done : H → ℕ) → Counts w done → (budget : ℕ) (quotas : ℕ → List ℕ) (s : State H C) (i : ℕ) (h : H) → slice_get s.harts i ≡ Some h → done h < 2 ^ 64 →
    Past done (done h) (slice_index (quotas s.rounds) i + budget) (past_of w budget quotas s i)
past_rises {H} {C} w done cs budget quotas s i h at low =
    let bs : List ℕ = s.bytes in
    let quota : ℕ = slice_index (quotas s.rounds) i in
    let r : HartRound H = hart_round_of w bs quota h in
    let front : State H C = before_turn w budget s (hart_rounds w bs (quotas s.rounds) s.harts) i in
    let u : Turn H C = record { hart = r.last.hart; bytes = front.bytes; console = front.console; trace = front.trace } in
    let turns : ℕ = cond r.waits budget 0 in
    let xs : List H = parts_from w bs quota (began h) in
    let ys : List H = turn_of_waiting w budget front i r in
    let p = parts_are w bs quota (began h) in
    let t = turns_are w front.rounds i turns u in
    let steps : ℕ = steps_from w bs quota (began h) in
    let did : ℕ = turn_steps w front.rounds i turns u in
    let at_turn : done r.last.hart ≡ (done h + steps) % 2 ^ 64 = counts_steps w done cs bs quota (began h) low in
    let front_rises : Rises done (done h) xs = parts_rise w done cs bs quota (done h) (began h) (omega (arith, low)) in
    let back_rises : Rises done (done h + steps) ys = turns_rise w done cs front.rounds i turns (done h + steps) u at_turn in
    let rises : Rises done (done h) (goes_on_with xs ys) = both_rise done (done h) steps xs ys p.size front_rises back_rises in
    let long : length (goes_on_with xs ys) ≡ suc (steps + did) = omega (arith, both_long steps xs ys p.size, t.size) in
    subst (Past done (done h) (quota + budget)) (sym (past_is w budget quotas s i h at)) (record {
      count = steps + did;
      few = omega (arith, p.within, t.within, few_turns r.waits budget);
      size = long;
      each = λ k le. at_each done (done h) (goes_on_with xs ys) k rises (omega (arith, long, le));
    })
