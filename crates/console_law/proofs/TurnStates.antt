-- The states of a turn, told as a recursion, are its one sequence.
use Rattle.std.proofs.Common.{◌≡◌, ℕ, zero, suc, Bool, true, false, List, [], ◌∷◌, refl, sym, subst, inl, inr, arith}
use Rattle.round_schedule.specs.declared.access.Stepped.{Stepped}
use Rattle.round_schedule.specs.declared.access.Stepped.TheVariants.{Done, Waits, Stopped}
use Rattle.round_schedule.specs.Schedule.{IsSerialTurn, Turn, Words, serial_next, turn_from, turn_went, turned}
use Rattle.console_law.specs.Laws.{TurnStatesAreTurn}
use Rattle.console_law.specs.TurnStates.{states_by, turn_states}

module _ {H C : Type 0} (w : Words H C) (n i : ℕ) where
  -- one instruction on

  states_stopped : (k : ℕ) (p : Turn H C) → w.stopped p.hart ≡ true → turn_states w n i (suc k) p ≡ []
  unfolding turn_states
  states_stopped k p s = rw s refl

  states_go : (k : ℕ) (p : Turn H C) (y : Stepped) → w.stopped p.hart ≡ false → (serial_next w n i p).answer ≡ y →
      turn_states w n i (suc k) p ≡ states_by y (turn_went n i p (serial_next w n i p)) (turn_states w n i k)
  unfolding turn_states
  states_go k p y s a = rw (s, a) refl

  turn_stopped : (k : ℕ) (p : Turn H C) → w.stopped p.hart ≡ true → turn_from w n i (suc k) p ≡ p
  unfolding turn_from
  turn_stopped k p s = rw s refl

  turn_goes : (k : ℕ) (p : Turn H C) (y : Stepped) → w.stopped p.hart ≡ false → (serial_next w n i p).answer ≡ y →
      turn_from w n i (suc k) p ≡ turned n i y p (serial_next w n i p) (turn_from w n i k)
  unfolding turn_from
  turn_goes k p y s a = rw (s, a) refl

  -- so it is after any number of them

  abbrev IsTurn : ℕ → Turn H C → Type 0
  IsTurn k p = IsSerialTurn w n i k p (turn_states w n i k p) (turn_from w n i k p)

  by_step : (k : ℕ) (p : Turn H C) (y : Stepped) → w.stopped p.hart ≡ false → (serial_next w n i p).answer ≡ y → ((q : Turn H C) → IsTurn k q) →
      IsSerialTurn w n i (suc k) p (states_by y (turn_went n i p (serial_next w n i p)) (turn_states w n i k)) (turn_from w n i (suc k) p)
  by_step k p (Done a) s is rest =
      let q : Turn H C = turn_went n i p (serial_next w n i p) a in
      let h : IsTurn k q = rest q in
      subst (IsSerialTurn w n i (suc k) p (q ∷ turn_states w n i k q)) (sym (turn_goes k p (Done a) s is))
      (h.0, h.1, omega (arith, h.2), ((s, (a, is, refl)), h.3), h.4)
  by_step k p Waits s is rest = (suc k, p, omega arith, refl, inr (inr (inl (omega arith, s, is, turn_goes k p Waits s is))))
  by_step k p (Stopped code) s is rest = (suc k, p, omega arith, refl, inr (inr (inr (code, omega arith, s, is, turn_goes k p (Stopped code) s is))))

  by_test : (k : ℕ) (p : Turn H C) (s : Bool) → w.stopped p.hart ≡ s → ((q : Turn H C) → IsTurn k q) → IsTurn (suc k) p
  by_test k p true s rest =
      subst (λ (qs : List (Turn H C)). IsSerialTurn w n i (suc k) p qs (turn_from w n i (suc k) p)) (sym (states_stopped k p s))
      (suc k, p, omega arith, refl, inr (inl (s, turn_stopped k p s)))
  by_test k p false s rest =
      subst (λ (qs : List (Turn H C)). IsSerialTurn w n i (suc k) p qs (turn_from w n i (suc k) p)) (sym (states_go k p (serial_next w n i p).answer s refl))
      (by_step k p (serial_next w n i p).answer s refl rest)

  turn_is : (k : ℕ) (p : Turn H C) → IsTurn k p
  unfolding turn_states turn_from
  turn_is zero p = (0, p, refl, refl, inl (refl, refl))
  turn_is (suc k) p = by_test k p (w.stopped p.hart) refl (turn_is k)

pub states_are_turn : (H C : Type 0) → TurnStatesAreTurn H C
states_are_turn H C = λ w n i k p. turn_is w n i k p
