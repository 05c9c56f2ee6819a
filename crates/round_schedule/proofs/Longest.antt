-- The round of a hart, told as a recursion, is the end of its one longest sequence of instructions.
use Rattle.std.proofs.Common.{◌≡◌, ℕ, zero, suc, ◌+◌, Bool, true, false, List, refl, sym, ◌∙◌, ap, subst, inl, inr, arith}
use Rattle.round_schedule.specs.declared.access.Stepped.{Stepped}
use Rattle.round_schedule.specs.declared.access.Stepped.TheVariants.{Done, Waits, Stopped}
use Rattle.round_schedule.specs.Schedule.{Words, Progress, HartRound, HartRoundIsLongest, IsHartRound, Reaches, Ends, next_of, round_from, by_answer, went, ended}

module _ {H C : Type 0} (w : Words H C) (bs : List ℕ) where
  round_stopped : (n : ℕ) (p : Progress H) → w.stopped p.hart ≡ true → round_from w bs (suc n) p ≡ ended p false
  unfolding round_from
  round_stopped n p s = rw s refl

  round_goes : (n : ℕ) (p : Progress H) (y : Stepped) → w.stopped p.hart ≡ false → (next_of w bs p).answer ≡ y →
      round_from w bs (suc n) p ≡ by_answer y p (next_of w bs p) (round_from w bs n)
  unfolding round_from
  round_goes n p y s a = rw (s, a) refl

  ends_here : (n : ℕ) (p : Progress H) (r : HartRound H) → Ends w bs n p r → r ≡ round_from w bs n p
  unfolding round_from
  ends_here zero p r (inl e) = e.1
  ends_here zero p r (inr (inl e)) = e.1
  ends_here zero p r (inr (inr (inl e))) = absurd (omega (arith, e.0))
  ends_here zero p r (inr (inr (inr e))) = absurd (omega (arith, e.1))
  ends_here (suc n) p r (inl e) = absurd (omega (arith, e.0))
  ends_here (suc n) p r (inr (inl e)) = e.1 ∙ sym (round_stopped n p e.0)
  ends_here (suc n) p r (inr (inr (inl e))) = e.3 ∙ sym (round_goes n p Waits e.1 e.2)
  ends_here (suc n) p r (inr (inr (inr e))) = e.4 ∙ sym (round_goes n p (Stopped e.0) e.2 e.3)

  is_round_from : (k j n : ℕ) (p t : Progress H) (r : HartRound H) → k + j ≡ n → Reaches w bs k p t → Ends w bs j t r → r ≡ round_from w bs n p
  is_round_from zero j n p t r s g e =
      let same : j ≡ n = omega (arith, s) in
      ends_here j t r e ∙ ap (λ (m : ℕ). round_from w bs m t) same ∙ ap (round_from w bs n) g
  is_round_from (suc k) j zero p t r s g e = absurd (omega (arith, s))
  is_round_from (suc k) j (suc n) p t r s g e =
      is_round_from k j n g.0 t r (omega (arith, s)) g.1.1 e ∙ ap (round_from w bs n) g.1.0.1.2
      ∙ sym (round_goes n p (Done g.1.0.1.0) g.1.0.0 g.1.0.1.1)

  IsRoundAt : ℕ → Progress H → Type 0
  IsRoundAt n p = IsHartRound w bs n p (round_from w bs n p)

  by_step : (n : ℕ) (p : Progress H) (y : Stepped) → w.stopped p.hart ≡ false → (next_of w bs p).answer ≡ y →
      ((q : Progress H) → IsHartRound w bs n q (round_from w bs n q)) → IsHartRound w bs (suc n) p (round_from w bs (suc n) p)
  by_step n p (Done a) s is rest =
      let q : Progress H = went p (next_of w bs p) a in
      let h : IsHartRound w bs n q (round_from w bs n q) = rest q in
      subst (IsHartRound w bs (suc n) p) (sym (round_goes n p (Done a) s is))
      (suc h.0, h.1, h.2, omega (arith, h.3), (q, ((s, (a, is, refl)), h.4)), h.5)
  by_step n p Waits s is rest = (0, suc n, p, omega arith, refl, inr (inr (inl (omega arith, s, is, round_goes n p Waits s is))))
  by_step n p (Stopped code) s is rest = (0, suc n, p, omega arith, refl, inr (inr (inr (code, omega arith, s, is, round_goes n p (Stopped code) s is))))

  by_test : (n : ℕ) (p : Progress H) (s : Bool) → w.stopped p.hart ≡ s →
      ((q : Progress H) → IsHartRound w bs n q (round_from w bs n q)) → IsHartRound w bs (suc n) p (round_from w bs (suc n) p)
  by_test n p true s rest = (0, suc n, p, omega arith, refl, inr (inl (s, round_stopped n p s)))
  by_test n p false s rest = by_step n p (next_of w bs p).answer s refl rest

  round_is : (n : ℕ) (p : Progress H) → IsHartRound w bs n p (round_from w bs n p)
  unfolding round_from
  round_is zero p = (0, 0, p, refl, refl, inl (refl, refl))
  round_is (suc n) p = by_test n p (w.stopped p.hart) refl (round_is n)

pub longest : (H C : Type 0) → HartRoundIsLongest H C
longest H C = λ w bs n p r. (
  (λ h. is_round_from w bs h.0 h.1 n p h.2 r h.3 h.4 h.5),
  (λ e. subst (IsHartRound w bs n p) (sym e) (round_is w bs n p)),
)
