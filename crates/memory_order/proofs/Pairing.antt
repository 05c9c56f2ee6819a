-- The pairs of LRs and SCs, by the last LR or SC of each hart.
use Rattle.std.proofs.Common.{◌≡◌, ℕ, ◌+◌, ◌<◌, ◌≤◌, ◌==◌, max, Bool, true, false, if◌then◌else◌, List, [], ◌∷◌, ◌++◌, length, get_or, length-append, refl, sym, ap, ◌∙◌, subst, inl, inr, arith}
use Rattle.std.proofs.lemmas.Bool.{cases_lt, eq-eqb}
use Rattle.std.proofs.lemmas.List.{get_or_append_left, get_or_push}
use Rattle.round_schedule.specs.declared.event.Event.{Event}
use Rattle.round_schedule.specs.Positions.{event}
use Rattle.memory_order.specs.Operations.{is_lr_or_sc}
use Rattle.memory_order.specs.Checking.{AreReserved, Earlier, IsMax}
use Rattle.memory_order.proofs.Bounding.{earlier_step, max_below}
use Rattle.memory_order.proofs.Sourcing.{same_number}

abbrev pub is_reserving : Event → Bool
is_reserving e = is_lr_or_sc e.access

pub reserved_more : (t : List Event) (i b : ℕ) (v w : List ℕ) → w ≡ v ++ b ∷ [] → AreReserved t i v → IsMax (λ j. j) (Earlier is_reserving t (event t i).hart i) b → AreReserved t (i + 1) w
reserved_more t i b v w e was now = (long, each)
  where
    long : length w ≡ i + 1
    long = let l = length-append v (b ∷ []) in let m = ap length e in omega (arith, l, m, was.0)

    each : (c : ℕ) → c < i + 1 → IsMax (λ j. j) (Earlier is_reserving t (event t c).hart c) (get_or w c 0)
    each c l = elim (cases_lt c i) [
      | inl o ↦ subst (IsMax (λ j. j) (Earlier is_reserving t (event t c).hart c)) (sym (ap (λ u. get_or u c 0) e ∙ get_or_append_left v (b ∷ []) 0 c (omega (arith, o, was.0)))) (was.1 c o)
      | inr n ↦
          let s : c ≡ i = omega (arith, l, n) in
          subst (λ k. IsMax (λ j. j) (Earlier is_reserving t (event t k).hart k) (get_or w k 0)) (sym s)
          (subst (IsMax (λ j. j) (Earlier is_reserving t (event t i).hart i)) (sym (ap (λ u. get_or u i 0) e ∙ get_or_push v b 0 i was.0)) now)
    ]

set_is_max : (r : Bool) (old next : ℕ) → old ≤ next → (if r then max old next else old) ≡ (if r then next else old)
set_is_max true old next l = omega (arith, l)
set_is_max false old next l = refl

pub last_step : (t : List Event) (i : ℕ) (e : Event) (old new : ℕ → ℕ) → e ≡ event t i → is_lr_or_sc e.access ≡ true →
    ((h : ℕ) → new h ≡ (if h == e.hart then i + 1 else old h)) →
    ((h : ℕ) → IsMax (λ j. j) (Earlier is_reserving t h i) (old h)) → (h : ℕ) → IsMax (λ j. j) (Earlier is_reserving t h (i + 1)) (new h)
last_step t i e old new is test set was h =
    let low : old h ≤ i = max_below (λ j. j) (Earlier is_reserving t h i) (old h) i (was h) (λ a p. p.0) in
    subst (IsMax (λ j. j) (Earlier is_reserving t h (i + 1))) (set_is_max (h == e.hart) (old h) (i + 1) (omega (arith, low)) ∙ sym (set h))
    (earlier_step is_reserving t (λ j. j) h i (old h) (i + 1) (h == e.hart)
    (λ r. (ap (λ (f : Event). f.hart) (sym is) ∙ sym (same_number h e.hart r), ap is_reserving (sym is) ∙ test))
    (λ s _. eq-eqb h e.hart (sym s ∙ ap (λ (f : Event). f.hart) (sym is)))
    (λ _. refl) (was h))

pub last_stays : (t : List Event) (i : ℕ) (e : Event) (last : ℕ → ℕ) → e ≡ event t i → is_lr_or_sc e.access ≡ false →
    ((h : ℕ) → IsMax (λ j. j) (Earlier is_reserving t h i) (last h)) → (h : ℕ) → IsMax (λ j. j) (Earlier is_reserving t h (i + 1)) (last h)
last_stays t i e last is test was h =
    earlier_step is_reserving t (λ j. j) h i (last h) 0 false (λ r. cc) (λ _ w. sym test ∙ ap is_reserving is ∙ w) (λ r. cc) (was h)
