-- What a hart was after a number of instructions, from rounds and turns that may do no more.
use Rattle.std.proofs.Common.{◌≡◌, ℕ, zero, suc, ◌+◌, ◌%◌, ◌^◌, ◌<◌, ◌==◌, Bool, true, false, cond, List, slice_get, Some, refl, ap, subst, ◌∙◌, arith}
use Rattle.round_schedule.specs.declared.access.Stepped.{Stepped}
use Rattle.round_schedule.specs.declared.access.Stepped.TheVariants.{Done, Waits, Stopped}
use Rattle.round_schedule.specs.Schedule.{Words, Progress, Turn, went, next_of, round_from, turn_from, serial_next}
use Rattle.round_schedule.specs.Sound.{Counts, counted}
use Rattle.round_schedule.specs.Past.{gone, turns_from, parts_from, goes_on_with}
use Rattle.round_schedule.proofs.PastParts.{steps_from, turn_steps, parts_are, of_first, of_second}

-- ---- the count of a hart says how many instructions it did

pub counts_steps : {H C : Type 0} (w : Words H C) (done : H → ℕ) → Counts w done → (bs : List ℕ) (n : ℕ) (p : Progress H) → done p.hart < 2 ^ 64 → done (round_from w bs n p).last.hart ≡ (done p.hart + steps_from w bs n p) % 2 ^ 64
unfolding steps_from round_from
counts_steps w done cs bs zero p lt = omega (arith, lt)
counts_steps {H} {C} w done cs bs (suc n) p lt = by_first (counts_steps w done cs bs n) (w.stopped p.hart) (next_of w bs p).answer refl refl
  where
    by_first : (ih : (q : Progress H) → done q.hart < 2 ^ 64 → done (round_from w bs n q).last.hart ≡ (done q.hart + steps_from w bs n q) % 2 ^ 64) → (stopped : Bool) (a : Stepped) → w.stopped p.hart ≡ stopped → (next_of w bs p).answer ≡ a → done (round_from w bs (suc n) p).last.hart ≡ (done p.hart + steps_from w bs (suc n) p) % 2 ^ 64
    by_first ih true a hs ha = rw hs (omega (arith, lt))
    by_first ih false Waits hs ha =
        let c : done (next_of w bs p).hart ≡ counted Waits (done p.hart) = subst (λ (y : Stepped). done (next_of w bs p).hart ≡ counted y (done p.hart)) ha (cs.step_counts p.hart _) in
        rw (hs, ha) (omega (arith, c, lt))
    by_first ih false (Stopped code) hs ha =
        let c : done (next_of w bs p).hart ≡ counted (Stopped code) (done p.hart) = subst (λ (y : Stepped). done (next_of w bs p).hart ≡ counted y (done p.hart)) ha (cs.step_counts p.hart _) in
        rw (hs, ha) (omega (arith, c, lt))
    by_first ih false (Done a) hs ha =
        let c : done (next_of w bs p).hart ≡ counted (Done a) (done p.hart) = subst (λ (y : Stepped). done (next_of w bs p).hart ≡ counted y (done p.hart)) ha (cs.step_counts p.hart _) in
        let rest = ih (went p (next_of w bs p) a) (omega (arith, c)) in
        rw (hs, ha) (omega (arith, c, rest))

pub counts_turn : {H C : Type 0} (w : Words H C) (done : H → ℕ) → Counts w done → (n i k : ℕ) (p : Turn H C) → done p.hart < 2 ^ 64 → done (turn_from w n i k p).hart ≡ (done p.hart + turn_steps w n i k p) % 2 ^ 64
unfolding turn_steps turn_from
counts_turn w done cs n i zero p lt = omega (arith, lt)
counts_turn {H} {C} w done cs n i (suc k) p lt = by_first (counts_turn w done cs n i k) (w.stopped p.hart) (serial_next w n i p).answer refl refl
  where
    by_first : (ih : (q : Turn H C) → done q.hart < 2 ^ 64 → done (turn_from w n i k q).hart ≡ (done q.hart + turn_steps w n i k q) % 2 ^ 64) → (stopped : Bool) (a : Stepped) → w.stopped p.hart ≡ stopped → (serial_next w n i p).answer ≡ a → done (turn_from w n i (suc k) p).hart ≡ (done p.hart + turn_steps w n i (suc k) p) % 2 ^ 64
    by_first ih true a hs ha = rw hs (omega (arith, lt))
    by_first ih false Waits hs ha =
        let c : done (serial_next w n i p).hart ≡ counted Waits (done p.hart) = subst (λ (y : Stepped). done (serial_next w n i p).hart ≡ counted y (done p.hart)) ha (cs.serial_counts n p.hart _ _ _) in
        rw (hs, ha) (omega (arith, c, lt))
    by_first ih false (Stopped code) hs ha =
        let c : done (serial_next w n i p).hart ≡ counted (Stopped code) (done p.hart) = subst (λ (y : Stepped). done (serial_next w n i p).hart ≡ counted y (done p.hart)) ha (cs.serial_counts n p.hart _ _ _) in
        rw (hs, ha) (omega (arith, c, lt))
    by_first ih false (Done a) hs ha =
        let c : done (serial_next w n i p).hart ≡ counted (Done a) (done p.hart) = subst (λ (y : Stepped). done (serial_next w n i p).hart ≡ counted y (done p.hart)) ha (cs.serial_counts n p.hart _ _ _) in
        let rest = ih (gone n i a p (serial_next w n i p)) (omega (arith, c)) in
        rw (hs, ha) (omega (arith, c, rest))

-- ---- a turn that may do more

-- what a turn that ends before its bound says of every greater bound
pub short_turn : {H C : Type 0} (w : Words H C) (n i t k : ℕ) (p : Turn H C) → turn_steps w n i t p < t → turn_steps w n i (t + k) p ≡ turn_steps w n i t p
unfolding turn_steps
short_turn w n i zero k p lt = absurd (omega (arith, lt))
short_turn {H} {C} w n i (suc t) k p lt = let e : suc t + k ≡ suc (t + k) = omega arith in rw e (by_first (short_turn w n i t k) (w.stopped p.hart) (serial_next w n i p).answer refl refl lt)
  where
    by_first : (ih : (q : Turn H C) → turn_steps w n i t q < t → turn_steps w n i (t + k) q ≡ turn_steps w n i t q) → (stopped : Bool) (a : Stepped) → w.stopped p.hart ≡ stopped → (serial_next w n i p).answer ≡ a → turn_steps w n i (suc t) p < suc t → turn_steps w n i (suc (t + k)) p ≡ turn_steps w n i (suc t) p
    by_first ih true a hs ha = rw hs (λ l. refl)
    by_first ih false Waits hs ha = rw (hs, ha) (λ l. refl)
    by_first ih false (Stopped code) hs ha = rw (hs, ha) (λ l. refl)
    by_first ih false (Done a) hs ha = rw (hs, ha) (λ l. ap suc (ih (gone n i a p (serial_next w n i p)) (omega (arith, l))))

-- where all t were done, the turn goes on from there
pub whole_turn : {H C : Type 0} (w : Words H C) (n i t k : ℕ) (p : Turn H C) → turn_steps w n i t p ≡ t → slice_get (turns_from w n i (t + k) p) t ≡ slice_get (turns_from w n i k (turn_from w n i t p)) 0
unfolding turn_steps turns_from turn_from
whole_turn w n i zero k p all = let e : 0 + k ≡ k = omega arith in rw e refl
whole_turn {H} {C} w n i (suc t) k p all = let e : suc t + k ≡ suc (t + k) = omega arith in rw e (by_first (whole_turn w n i t k) (w.stopped p.hart) (serial_next w n i p).answer refl refl all)
  where
    by_first : (ih : (q : Turn H C) → turn_steps w n i t q ≡ t → slice_get (turns_from w n i (t + k) q) t ≡ slice_get (turns_from w n i k (turn_from w n i t q)) 0) → (stopped : Bool) (a : Stepped) → w.stopped p.hart ≡ stopped → (serial_next w n i p).answer ≡ a → turn_steps w n i (suc t) p ≡ suc t → slice_get (turns_from w n i (suc (t + k)) p) (suc t) ≡ slice_get (turns_from w n i k (turn_from w n i (suc t) p)) 0
    by_first ih true a hs ha = rw hs (λ l. absurd (omega (arith, l)))
    by_first ih false Waits hs ha = rw (hs, ha) (λ l. absurd (omega (arith, l)))
    by_first ih false (Stopped code) hs ha = rw (hs, ha) (λ l. absurd (omega (arith, l)))
    by_first ih false (Done a) hs ha = rw (hs, ha) (λ l. ih (gone n i a p (serial_next w n i p)) (omega (arith, l)))

-- before its first instruction, by what one instruction does
pub first_of_turn : {H C : Type 0} (w : Words H C) (n i k : ℕ) (p : Turn H C) (d : ℕ) → turn_steps w n i 1 p ≡ d → slice_get (turns_from w n i (suc k) p) 0 ≡ cond (d == 0) (Some (turn_from w n i 1 p).hart) (Some p.hart)
unfolding turn_steps turns_from turn_from
first_of_turn {H} {C} w n i k p d steps = by_first (w.stopped p.hart) (serial_next w n i p).answer refl refl steps
  where
    by_first : (stopped : Bool) (a : Stepped) → w.stopped p.hart ≡ stopped → (serial_next w n i p).answer ≡ a → turn_steps w n i 1 p ≡ d → slice_get (turns_from w n i (suc k) p) 0 ≡ cond (d == 0) (Some (turn_from w n i 1 p).hart) (Some p.hart)
    by_first true a hs ha = rw hs (λ e. rw (← e) refl)
    by_first false Waits hs ha = rw (hs, ha) (λ e. rw (← e) refl)
    by_first false (Stopped code) hs ha = rw (hs, ha) (λ e. rw (← e) refl)
    by_first false (Done a) hs ha = rw (hs, ha) (λ e. rw (← e) refl)

-- ---- both phases

pub early : {H C : Type 0} (w : Words H C) (bs : List ℕ) (quota : ℕ) (p : Progress H) (ys : List H) (c : ℕ) → c < steps_from w bs quota p → slice_get (goes_on_with (parts_from w bs quota p) ys) c ≡ Some (round_from w bs c p).last.hart
early w bs quota p ys c lt =
    let x = parts_are w bs quota p in
    of_first (parts_from w bs quota p) ys c (omega (arith, x.size, lt)) ∙ x.before c lt

pub late : {H C : Type 0} (w : Words H C) (bs : List ℕ) (quota : ℕ) (p : Progress H) (ys : List H) (c : ℕ) → slice_get (goes_on_with (parts_from w bs quota p) ys) (steps_from w bs quota p + c) ≡ slice_get ys c
late w bs quota p ys c = of_second (parts_from w bs quota p) ys (steps_from w bs quota p) c (parts_are w bs quota p).size
