-- Where a hart's sights of a round end, and those of fewer instructions.
use Rattle.std.proofs.Common.{◌≡◌, ℕ, zero, suc, ◌<◌, ◌≤◌, Bool, true, false, List, [], ◌∷◌, ◌++◌, length, slice_get, Some, refl, sym, ◌∙◌, ap, arith, length-append}
use Rattle.round_schedule.specs.declared.access.Stepped.{Stepped}
use Rattle.round_schedule.specs.declared.access.Stepped.TheVariants.{Done, Waits, Stopped}
use Rattle.round_schedule.specs.Past.{last_of}
use Rattle.round_schedule.specs.Schedule.{Words, Progress, Turn, began, next_of, round_from, serial_next, turn_from, turn_went, went}
use Rattle.moments.specs.Sights.{Sight, next_seen, part_sights, seen_after, sight_at, turn_sights}
use Rattle.moments.specs.Laws.{SightsEndInTheSchedule}
use Rattle.moments.proofs.Left.{sight_goes, sight_in}

last_pushed : {A : Type 0} (xs : List A) (x : A) → last_of (xs ++ x ∷ []) ≡ Some x
last_pushed [] x = refl
last_pushed (y ∷ []) x = refl
last_pushed (y ∷ z ∷ xs) x = last_pushed (z ∷ xs) x

last_more : {A : Type 0} (x : A) (xs : List A) → 1 ≤ length xs → last_of (x ∷ xs) ≡ last_of xs
last_more x [] le = absurd (omega (arith, le))
last_more x (y ∷ ys) le = refl

-- ---- a part

module _ {H C : Type 0} (w : Words H C) (bs : List ℕ) where
  record PartLasts (k : ℕ) (p : Progress H) : Type 0 where
    pub front : List (Sight H)
    pub is : part_sights w k (sight_in bs p) ≡ front ++ sight_in bs (round_from w bs k p).last ∷ []

  part_first : (k : ℕ) (p : Progress H) (stopped : Bool) (a : Stepped) → w.stopped p.hart ≡ stopped → (next_of w bs p).answer ≡ a → ((q : Progress H) → PartLasts k q) → PartLasts (suc k) p
  unfolding part_sights round_from
  part_first k p true a hs ha ih = record { front = []; is = rw hs refl }
  part_first k p false Waits hs ha ih = record { front = []; is = rw (hs, ha) refl }
  part_first k p false (Stopped code) hs ha ih = record { front = []; is = rw (hs, ha) refl }
  part_first k p false (Done a) hs ha ih =
      let e = ih (went p (next_of w bs p) a) in
      record {
        front = sight_in bs p ∷ e.front;
        is = rw (hs, ha) (ap (λ (xs : List (Sight H)). sight_in bs p ∷ xs) (ap (part_sights w k) (sight_goes bs p (next_of w bs p) a) ∙ e.is));
      }

  part_lasts : (k : ℕ) (p : Progress H) → PartLasts k p
  unfolding part_sights round_from
  part_lasts zero p = record { front = []; is = refl }
  part_lasts (suc k) p = part_first k p (w.stopped p.hart) (next_of w bs p).answer refl refl (λ q. part_lasts k q)

  part_end : (k : ℕ) (p : Progress H) → last_of (part_sights w k (sight_in bs p)) ≡ Some (sight_in bs (round_from w bs k p).last)
  part_end k p = let e = part_lasts k p in ap last_of e.is ∙ last_pushed e.front (sight_in bs (round_from w bs k p).last)

module _ {H C : Type 0} (w : Words H C) where
  part_some : (k : ℕ) (s : Sight H) → 1 ≤ length (part_sights w k s)
  part_some k s =
      let e = part_lasts w s.bytes k (began s.hart) in
      let size = ap length e.is in
      omega (arith, size, length-append e.front (sight_in s.bytes (round_from w s.bytes k (began s.hart)).last ∷ []))

  abbrev ShorterPart : ℕ → ℕ → Sight H → Type 0
  ShorterPart count quota s = suc count < length (part_sights w quota s) → slice_get (part_sights w quota s) count ≡ last_of (part_sights w count s)

  shorter_first : (count quota : ℕ) (s : Sight H) (stopped : Bool) (a : Stepped) → w.stopped s.hart ≡ stopped → (next_seen w s).answer ≡ a →
      ((q : Sight H) → ShorterPart count quota q) → ShorterPart (suc count) (suc quota) s
  unfolding part_sights
  shorter_first count quota s true a hs ha ih = rw hs (λ lt. absurd (omega (arith, lt)))
  shorter_first count quota s false Waits hs ha ih = rw (hs, ha) (λ lt. absurd (omega (arith, lt)))
  shorter_first count quota s false (Stopped code) hs ha ih = rw (hs, ha) (λ lt. absurd (omega (arith, lt)))
  shorter_first count quota s false (Done a) hs ha ih =
      let next : Sight H = seen_after s (next_seen w s) in
      rw (hs, ha) (λ lt. ih next (omega (arith, lt)) ∙ sym (last_more s (part_sights w count next) (part_some count next)))

  begun_first : (quota : ℕ) (s : Sight H) (stopped : Bool) (a : Stepped) → w.stopped s.hart ≡ stopped → (next_seen w s).answer ≡ a → ShorterPart 0 (suc quota) s
  unfolding part_sights
  begun_first quota s true a hs ha = rw hs (λ lt. absurd (omega (arith, lt)))
  begun_first quota s false Waits hs ha = rw (hs, ha) (λ lt. absurd (omega (arith, lt)))
  begun_first quota s false (Stopped code) hs ha = rw (hs, ha) (λ lt. absurd (omega (arith, lt)))
  begun_first quota s false (Done a) hs ha = rw (hs, ha) (λ lt. refl)

  shorter_part : (count quota : ℕ) (s : Sight H) → ShorterPart count quota s
  unfolding part_sights
  shorter_part count zero s = λ lt. absurd (omega (arith, lt))
  shorter_part zero (suc quota) s = begun_first quota s (w.stopped s.hart) (next_seen w s).answer refl refl
  shorter_part (suc count) (suc quota) s = shorter_first count quota s (w.stopped s.hart) (next_seen w s).answer refl refl (λ q. shorter_part count quota q)

-- ---- a turn

module _ {H C : Type 0} (w : Words H C) (n i : ℕ) where
  record TurnLasts (k : ℕ) (p : Turn H C) : Type 0 where
    pub front : List (Sight H)
    pub is : turn_sights w n i k p ≡ front ++ sight_at (turn_from w n i k p) ∷ []

  turn_first : (k : ℕ) (p : Turn H C) (stopped : Bool) (a : Stepped) → w.stopped p.hart ≡ stopped → (serial_next w n i p).answer ≡ a → ((q : Turn H C) → TurnLasts k q) → TurnLasts (suc k) p
  unfolding turn_sights turn_from
  turn_first k p true a hs ha ih = record { front = []; is = rw hs refl }
  turn_first k p false Waits hs ha ih = record { front = []; is = rw (hs, ha) refl }
  turn_first k p false (Stopped code) hs ha ih = record { front = []; is = rw (hs, ha) refl }
  turn_first k p false (Done a) hs ha ih =
      let e = ih (turn_went n i p (serial_next w n i p) a) in
      record { front = sight_at p ∷ e.front; is = rw (hs, ha) (ap (λ (xs : List (Sight H)). sight_at p ∷ xs) e.is) }

  turn_lasts : (k : ℕ) (p : Turn H C) → TurnLasts k p
  unfolding turn_sights turn_from
  turn_lasts zero p = record { front = []; is = refl }
  turn_lasts (suc k) p = turn_first k p (w.stopped p.hart) (serial_next w n i p).answer refl refl (λ q. turn_lasts k q)

  turn_end : (k : ℕ) (p : Turn H C) → last_of (turn_sights w n i k p) ≡ Some (sight_at (turn_from w n i k p))
  turn_end k p = let e = turn_lasts k p in ap last_of e.is ∙ last_pushed e.front (sight_at (turn_from w n i k p))

  turn_some : (k : ℕ) (p : Turn H C) → 1 ≤ length (turn_sights w n i k p)
  turn_some k p =
      let e = turn_lasts k p in
      let size = ap length e.is in
      omega (arith, size, length-append e.front (sight_at (turn_from w n i k p) ∷ []))

  abbrev ShorterTurn : ℕ → ℕ → Turn H C → Type 0
  ShorterTurn count k p = suc count < length (turn_sights w n i k p) → slice_get (turn_sights w n i k p) count ≡ last_of (turn_sights w n i count p)

  shorter_next : (count k : ℕ) (p : Turn H C) (stopped : Bool) (a : Stepped) → w.stopped p.hart ≡ stopped → (serial_next w n i p).answer ≡ a →
      ((q : Turn H C) → ShorterTurn count k q) → ShorterTurn (suc count) (suc k) p
  unfolding turn_sights
  shorter_next count k p true a hs ha ih = rw hs (λ lt. absurd (omega (arith, lt)))
  shorter_next count k p false Waits hs ha ih = rw (hs, ha) (λ lt. absurd (omega (arith, lt)))
  shorter_next count k p false (Stopped code) hs ha ih = rw (hs, ha) (λ lt. absurd (omega (arith, lt)))
  shorter_next count k p false (Done a) hs ha ih =
      let next : Turn H C = turn_went n i p (serial_next w n i p) a in
      rw (hs, ha) (λ lt. ih next (omega (arith, lt)) ∙ sym (last_more (sight_at p) (turn_sights w n i count next) (turn_some count next)))

  begun_next : (k : ℕ) (p : Turn H C) (stopped : Bool) (a : Stepped) → w.stopped p.hart ≡ stopped → (serial_next w n i p).answer ≡ a → ShorterTurn 0 (suc k) p
  unfolding turn_sights
  begun_next k p true a hs ha = rw hs (λ lt. absurd (omega (arith, lt)))
  begun_next k p false Waits hs ha = rw (hs, ha) (λ lt. absurd (omega (arith, lt)))
  begun_next k p false (Stopped code) hs ha = rw (hs, ha) (λ lt. absurd (omega (arith, lt)))
  begun_next k p false (Done a) hs ha = rw (hs, ha) (λ lt. refl)

  shorter_turn : (count k : ℕ) (p : Turn H C) → ShorterTurn count k p
  unfolding turn_sights
  shorter_turn count zero p = λ lt. absurd (omega (arith, lt))
  shorter_turn zero (suc k) p = begun_next k p (w.stopped p.hart) (serial_next w n i p).answer refl refl
  shorter_turn (suc count) (suc k) p = shorter_next count k p (w.stopped p.hart) (serial_next w n i p).answer refl refl (λ q. shorter_turn count k q)

pub sights_end : (H C : Type 0) → SightsEndInTheSchedule H C
sights_end H C = record {
  part = λ w bs quota h. part_end w bs quota (began h);
  turn = λ w n i k p. turn_end w n i k p;
  shorter_part = λ w quota count s lt. shorter_part w count quota s lt;
  shorter_turn = λ w n i k count p lt. shorter_turn w n i count k p lt;
}
