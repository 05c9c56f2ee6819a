-- The serial turn of a hart, told as a recursion, is its one longest sequence of instructions.
use Rattle.std.proofs.Common.{◌≡◌, ℕ, zero, suc, ◌+◌, ◌≤◌, Bool, true, false, List, [], ◌∷◌, ◌++◌, length, if◌then◌else◌, refl, sym, ◌∙◌, ap, subst, inl, inr, arith}
use Rattle.round_schedule.specs.declared.access.Stepped.{Stepped}
use Rattle.round_schedule.specs.declared.access.Stepped.TheVariants.{Done, Waits, Stopped}
use Rattle.round_schedule.specs.Schedule.{Words, Turn, SerialOutcome, SerialTurnIsLongest, IsSerialTurn, TurnEnds, TurnReaches, serial_next, turn_from, turn_went, turned}

module _ {H C : Type 0} (w : Words H C) (n i : ℕ) where
  -- the states after each instruction of the turn

  abbrev by_answer : Stepped → Turn H C → SerialOutcome H C → (Turn H C → List (Turn H C)) → List (Turn H C)
  by_answer (Done a) p o f = turn_went n i p o a ∷ f (turn_went n i p o a)
  by_answer Waits p o f = []
  by_answer (Stopped code) p o f = []

  states_from : ℕ → Turn H C → List (Turn H C)
  states_from zero p = []
  states_from (suc k) p = if w.stopped p.hart then [] else by_answer (serial_next w n i p).answer p (serial_next w n i p) (states_from k)

  states_stopped : (k : ℕ) (p : Turn H C) → w.stopped p.hart ≡ true → states_from (suc k) p ≡ []
  unfolding states_from
  states_stopped k p s = rw s refl

  states_go : (k : ℕ) (p : Turn H C) (y : Stepped) → w.stopped p.hart ≡ false → (serial_next w n i p).answer ≡ y →
      states_from (suc k) p ≡ by_answer y p (serial_next w n i p) (states_from k)
  unfolding states_from
  states_go k p y s a = rw (s, a) refl

  turn_stopped : (k : ℕ) (p : Turn H C) → w.stopped p.hart ≡ true → turn_from w n i (suc k) p ≡ p
  unfolding turn_from
  turn_stopped k p s = rw s refl

  turn_goes : (k : ℕ) (p : Turn H C) (y : Stepped) → w.stopped p.hart ≡ false → (serial_next w n i p).answer ≡ y →
      turn_from w n i (suc k) p ≡ turned n i y p (serial_next w n i p) (turn_from w n i k)
  unfolding turn_from
  turn_goes k p y s a = rw (s, a) refl

  -- each turn is this one

  record Told (k : ℕ) (p : Turn H C) (qs : List (Turn H C)) (r : Turn H C) : Type 0 where
    pub states : qs ≡ states_from k p
    pub last : r ≡ turn_from w n i k p

  ends_here : (k : ℕ) (p r : Turn H C) → TurnEnds w n i k p r → Told k p [] r
  unfolding states_from turn_from
  ends_here zero p r (inl e) = record { states = refl; last = e.1 }
  ends_here zero p r (inr (inl e)) = record { states = refl; last = e.1 }
  ends_here zero p r (inr (inr (inl e))) = absurd (omega (arith, e.0))
  ends_here zero p r (inr (inr (inr e))) = absurd (omega (arith, e.1))
  ends_here (suc k) p r (inl e) = absurd (omega (arith, e.0))
  ends_here (suc k) p r (inr (inl e)) = record { states = sym (states_stopped k p e.0); last = e.1 ∙ sym (turn_stopped k p e.0) }
  ends_here (suc k) p r (inr (inr (inl e))) = record { states = sym (states_go k p Waits e.1 e.2); last = e.3 ∙ sym (turn_goes k p Waits e.1 e.2) }
  ends_here (suc k) p r (inr (inr (inr e))) = record { states = sym (states_go k p (Stopped e.0) e.2 e.3); last = e.4 ∙ sym (turn_goes k p (Stopped e.0) e.2 e.3) }

  is_told : (qs : List (Turn H C)) (j k : ℕ) (p t r : Turn H C) → length qs + j ≡ k → TurnReaches w n i p qs t → TurnEnds w n i j t r → Told k p qs r
  is_told [] j k p t r s g e =
      let same : j ≡ k = omega (arith, s) in
      ends_here k p r (subst (λ (m : ℕ). TurnEnds w n i m p r) same (subst (λ (q : Turn H C). TurnEnds w n i j q r) g e))
  is_told (q ∷ qs) j zero p t r s g e = absurd (omega (arith, s))
  is_told (q ∷ qs) j (suc k) p t r s g e =
      let rest : Told k q qs r = is_told qs j k q t r (omega (arith, s)) g.1 e in
      record {
        states = ap (λ (xs : List (Turn H C)). q ∷ xs) rest.states ∙ ap (λ (x : Turn H C). x ∷ states_from k x) g.0.1.2 ∙ sym (states_go k p (Done g.0.1.0) g.0.0 g.0.1.1);
        last = rest.last ∙ ap (turn_from w n i k) g.0.1.2 ∙ sym (turn_goes k p (Done g.0.1.0) g.0.0 g.0.1.1);
      }

  -- this one is a turn

  by_step : (k : ℕ) (p : Turn H C) (y : Stepped) → w.stopped p.hart ≡ false → (serial_next w n i p).answer ≡ y →
      ((q : Turn H C) → IsSerialTurn w n i k q (states_from k q) (turn_from w n i k q)) →
      IsSerialTurn w n i (suc k) p (by_answer y p (serial_next w n i p) (states_from k)) (turn_from w n i (suc k) p)
  by_step k p (Done a) s is rest =
      let q : Turn H C = turn_went n i p (serial_next w n i p) a in
      let h : IsSerialTurn w n i k q (states_from k q) (turn_from w n i k q) = rest q in
      subst (IsSerialTurn w n i (suc k) p (q ∷ states_from k q)) (sym (turn_goes k p (Done a) s is))
      (h.0, h.1, omega (arith, h.2), ((s, (a, is, refl)), h.3), h.4)
  by_step k p Waits s is rest = (suc k, p, omega arith, refl, inr (inr (inl (omega arith, s, is, turn_goes k p Waits s is))))
  by_step k p (Stopped code) s is rest = (suc k, p, omega arith, refl, inr (inr (inr (code, omega arith, s, is, turn_goes k p (Stopped code) s is))))

  by_test : (k : ℕ) (p : Turn H C) (s : Bool) → w.stopped p.hart ≡ s →
      ((q : Turn H C) → IsSerialTurn w n i k q (states_from k q) (turn_from w n i k q)) →
      IsSerialTurn w n i (suc k) p (states_from (suc k) p) (turn_from w n i (suc k) p)
  by_test k p true s rest =
      subst (λ (qs : List (Turn H C)). IsSerialTurn w n i (suc k) p qs (turn_from w n i (suc k) p)) (sym (states_stopped k p s))
      (suc k, p, omega arith, refl, inr (inl (s, turn_stopped k p s)))
  by_test k p false s rest =
      subst (λ (qs : List (Turn H C)). IsSerialTurn w n i (suc k) p qs (turn_from w n i (suc k) p)) (sym (states_go k p (serial_next w n i p).answer s refl))
      (by_step k p (serial_next w n i p).answer s refl rest)

  turn_is : (k : ℕ) (p : Turn H C) → IsSerialTurn w n i k p (states_from k p) (turn_from w n i k p)
  unfolding states_from turn_from
  turn_is zero p = (0, p, refl, refl, inl (refl, refl))
  turn_is (suc k) p = by_test k p (w.stopped p.hart) refl (turn_is k)

  -- and none is longer

  is_beginning : (qs : List (Turn H C)) (k : ℕ) (p t : Turn H C) → length qs ≤ k → TurnReaches w n i p qs t →
      (rest : List (Turn H C)) × (qs ++ rest ≡ states_from k p)
  is_beginning [] k p t l g = (states_from k p, refl)
  is_beginning (q ∷ qs) zero p t l g = absurd (omega (arith, l))
  is_beginning (q ∷ qs) (suc k) p t l g =
      let more : (rest : List (Turn H C)) × (qs ++ rest ≡ states_from k q) = is_beginning qs k q t (omega (arith, l)) g.1 in
      (more.0, ap (λ (xs : List (Turn H C)). q ∷ xs) more.1 ∙ ap (λ (x : Turn H C). x ∷ states_from k x) g.0.1.2 ∙ sym (states_go k p (Done g.0.1.0) g.0.0 g.0.1.1))

pub longest_turn : (H C : Type 0) → SerialTurnIsLongest H C
longest_turn H C = λ w n i k p. record {
  states = states_from w n i k p;
  turn = turn_is w n i k p;
  only = λ qs r h. let told : Told w n i k p qs r = is_told w n i qs h.0 k p h.1 r h.2 h.3 h.4 in (told.states, told.last);
  longest = λ qs t l g. is_beginning w n i qs k p t l g;
}
