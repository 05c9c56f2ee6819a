-- A hart after some of its instructions is where a shorter round of it ends.
use Rattle.std.proofs.Common.{◌≡◌, ℕ, zero, suc, ◌+◌, ◌<◌, ◌≤◌, Bool, true, false, cond, List, [], ◌∷◌, length, slice_get, Option, Some, refl, ap, arith}
use Rattle.round_schedule.specs.declared.access.Access.{Access}
use Rattle.round_schedule.specs.declared.access.Stepped.{Stepped}
use Rattle.round_schedule.specs.declared.access.Stepped.TheVariants.{Done, Waits, Stopped}
use Rattle.round_schedule.specs.Schedule.{Words, StepOutcome, SerialOutcome, Progress, Turn, went, next_of, round_from, turn_from, serial_next}
use Rattle.round_schedule.specs.Past.{parts_from, gone, turns_from, goes_on_with}

-- how many instructions a hart does in its part
abbrev pub steps_by : {H : Type 0} → Stepped → Progress H → StepOutcome H → (Progress H → ℕ) → ℕ
steps_by (Done a) p o f = suc (f (went p o a))
steps_by Waits p o f = 0
steps_by (Stopped code) p o f = 0

unfoldable pub steps_from : {H C : Type 0} → Words H C → List ℕ → ℕ → Progress H → ℕ
steps_from w bs zero p = 0
steps_from w bs (suc n) p = cond (w.stopped p.hart) 0 (steps_by (next_of w bs p).answer p (next_of w bs p) (steps_from w bs n))

-- what is asked at a number of instructions: the end of a shorter round, the end of the whole round, or nothing
pub record PartsAre {H C : Type 0} (w : Words H C) (bs : List ℕ) (n : ℕ) (p : Progress H) : Type 0 where
  pub size : length (parts_from w bs n p) ≡ suc (steps_from w bs n p)
  pub within : steps_from w bs n p ≤ n
  pub before : (c : ℕ) → c < steps_from w bs n p → slice_get (parts_from w bs n p) c ≡ Some (round_from w bs c p).last.hart
  pub at_end : slice_get (parts_from w bs n p) (steps_from w bs n p) ≡ Some (round_from w bs n p).last.hart

-- before the end, by the number of instructions
before_after : {H C : Type 0} (w : Words H C) (bs : List ℕ) (n : ℕ) (p : Progress H) (a : Option Access) → w.stopped p.hart ≡ false → (next_of w bs p).answer ≡ Done a → PartsAre w bs n (went p (next_of w bs p) a)
    → (c : ℕ) → c < suc (steps_from w bs n (went p (next_of w bs p) a)) → slice_get (p.hart ∷ parts_from w bs n (went p (next_of w bs p) a)) c ≡ Some (round_from w bs c p).last.hart
unfolding parts_from steps_from round_from
before_after w bs n p a hs ha ih zero lt = refl
before_after w bs n p a hs ha ih (suc c) lt = rw (hs, ha) (ih.before c (omega (arith, lt)))

-- by the answer of the first instruction
first : {H C : Type 0} (w : Words H C) (bs : List ℕ) (n : ℕ) (p : Progress H) (stopped : Bool) (a : Stepped) → w.stopped p.hart ≡ stopped → (next_of w bs p).answer ≡ a → ((q : Progress H) → PartsAre w bs n q) → PartsAre w bs (suc n) p
unfolding parts_from steps_from round_from
first w bs n p true a hs ha ih = record {
  size = rw hs refl;
  within = rw hs (omega arith);
  before = λ c. rw hs (λ lt. absurd (omega (arith, lt)));
  at_end = rw hs refl;
}
first w bs n p false Waits hs ha ih = record {
  size = rw (hs, ha) refl;
  within = rw (hs, ha) (omega arith);
  before = λ c. rw (hs, ha) (λ lt. absurd (omega (arith, lt)));
  at_end = rw (hs, ha) refl;
}
first w bs n p false (Stopped code) hs ha ih = record {
  size = rw (hs, ha) refl;
  within = rw (hs, ha) (omega arith);
  before = λ c. rw (hs, ha) (λ lt. absurd (omega (arith, lt)));
  at_end = rw (hs, ha) refl;
}
first w bs n p false (Done a) hs ha ih = record {
  size = rw (hs, ha) (ap suc (ih (went p (next_of w bs p) a)).size);
  within = rw (hs, ha) (omega (arith, (ih (went p (next_of w bs p) a)).within));
  before = λ c. rw (hs, ha) (before_after w bs n p a hs ha (ih (went p (next_of w bs p) a)) c);
  at_end = rw (hs, ha) (ih (went p (next_of w bs p) a)).at_end;
}

pub parts_are : {H C : Type 0} (w : Words H C) (bs : List ℕ) (n : ℕ) (p : Progress H) → PartsAre w bs n p
unfolding parts_from steps_from round_from
parts_are w bs zero p = record { size = refl; within = omega arith; before = λ c lt. absurd (omega (arith, lt)); at_end = refl }
parts_are w bs (suc n) p = first w bs n p (w.stopped p.hart) (next_of w bs p).answer refl refl (λ q. parts_are w bs n q)

-- ---- the same of a turn

abbrev pub turn_steps_by : {H C : Type 0} → ℕ → ℕ → Stepped → Turn H C → SerialOutcome H C → (Turn H C → ℕ) → ℕ
turn_steps_by n i (Done a) p o f = suc (f (gone n i a p o))
turn_steps_by n i Waits p o f = 0
turn_steps_by n i (Stopped code) p o f = 0

unfoldable pub turn_steps : {H C : Type 0} → Words H C → ℕ → ℕ → ℕ → Turn H C → ℕ
turn_steps w n i zero p = 0
turn_steps w n i (suc k) p = cond (w.stopped p.hart) 0 (turn_steps_by n i (serial_next w n i p).answer p (serial_next w n i p) (turn_steps w n i k))

pub record TurnsAre {H C : Type 0} (w : Words H C) (n i k : ℕ) (p : Turn H C) : Type 0 where
  pub size : length (turns_from w n i k p) ≡ suc (turn_steps w n i k p)
  pub within : turn_steps w n i k p ≤ k
  pub before : (c : ℕ) → c < turn_steps w n i k p → slice_get (turns_from w n i k p) c ≡ Some (turn_from w n i c p).hart
  pub at_end : slice_get (turns_from w n i k p) (turn_steps w n i k p) ≡ Some (turn_from w n i k p).hart

turn_before : {H C : Type 0} (w : Words H C) (n i k : ℕ) (p : Turn H C) (a : Option Access) → w.stopped p.hart ≡ false → (serial_next w n i p).answer ≡ Done a → TurnsAre w n i k (gone n i a p (serial_next w n i p))
    → (c : ℕ) → c < suc (turn_steps w n i k (gone n i a p (serial_next w n i p))) → slice_get (p.hart ∷ turns_from w n i k (gone n i a p (serial_next w n i p))) c ≡ Some (turn_from w n i c p).hart
unfolding turns_from turn_steps turn_from
turn_before w n i k p a hs ha ih zero lt = refl
turn_before w n i k p a hs ha ih (suc c) lt = rw (hs, ha) (ih.before c (omega (arith, lt)))

turn_first : {H C : Type 0} (w : Words H C) (n i k : ℕ) (p : Turn H C) (stopped : Bool) (a : Stepped) → w.stopped p.hart ≡ stopped → (serial_next w n i p).answer ≡ a → ((q : Turn H C) → TurnsAre w n i k q) → TurnsAre w n i (suc k) p
unfolding turns_from turn_steps turn_from
turn_first w n i k p true a hs ha ih = record {
  size = rw hs refl;
  within = rw hs (omega arith);
  before = λ c. rw hs (λ lt. absurd (omega (arith, lt)));
  at_end = rw hs refl;
}
turn_first w n i k p false Waits hs ha ih = record {
  size = rw (hs, ha) refl;
  within = rw (hs, ha) (omega arith);
  before = λ c. rw (hs, ha) (λ lt. absurd (omega (arith, lt)));
  at_end = rw (hs, ha) refl;
}
turn_first w n i k p false (Stopped code) hs ha ih = record {
  size = rw (hs, ha) refl;
  within = rw (hs, ha) (omega arith);
  before = λ c. rw (hs, ha) (λ lt. absurd (omega (arith, lt)));
  at_end = rw (hs, ha) refl;
}
turn_first w n i k p false (Done a) hs ha ih = record {
  size = rw (hs, ha) (ap suc (ih (gone n i a p (serial_next w n i p))).size);
  within = rw (hs, ha) (omega (arith, (ih (gone n i a p (serial_next w n i p))).within));
  before = λ c. rw (hs, ha) (turn_before w n i k p a hs ha (ih (gone n i a p (serial_next w n i p))) c);
  at_end = rw (hs, ha) (ih (gone n i a p (serial_next w n i p))).at_end;
}

pub turns_are : {H C : Type 0} (w : Words H C) (n i k : ℕ) (p : Turn H C) → TurnsAre w n i k p
unfolding turns_from turn_steps turn_from
turns_are w n i zero p = record { size = refl; within = omega arith; before = λ c lt. absurd (omega (arith, lt)); at_end = refl }
turns_are w n i (suc k) p = turn_first w n i k p (w.stopped p.hart) (serial_next w n i p).answer refl refl (λ q. turns_are w n i k q)

-- ---- one list after the other

pub of_first : {H : Type 0} (xs ys : List H) (c : ℕ) → suc c < length xs → slice_get (goes_on_with xs ys) c ≡ slice_get xs c
of_first [] ys c lt = absurd (omega (arith, lt))
of_first (x ∷ []) ys c lt = absurd (omega (arith, lt))
of_first (x ∷ y ∷ xs) ys zero lt = refl
of_first (x ∷ y ∷ xs) ys (suc c) lt = of_first (y ∷ xs) ys c (omega (arith, lt))

pub of_second : {H : Type 0} (xs ys : List H) (k c : ℕ) → length xs ≡ suc k → slice_get (goes_on_with xs ys) (k + c) ≡ slice_get ys c
of_second [] ys k c e = absurd (omega (arith, e))
of_second (x ∷ []) ys k c e = let z : k + c ≡ c = omega (arith, e) in rw z refl
of_second (x ∷ y ∷ xs) ys zero c e = absurd (omega (arith, e))
of_second (x ∷ y ∷ xs) ys (suc k) c e = let z : suc k + c ≡ suc (k + c) = omega arith in rw z (of_second (y ∷ xs) ys k c (omega (arith, e)))
