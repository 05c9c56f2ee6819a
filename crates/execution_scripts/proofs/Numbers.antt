-- The numbers that one event more shows.
use Rattle.std.proofs.Common.{◌≡◌, ℕ, ◌==◌, Bool, true, false, List, [], ◌∷◌, ◌++◌, Option, Some, None, ap, refl, ◌∙◌}
use Rattle.std.proofs.lemmas.Bool.{eq-eqb, ne_eqb}
use Rattle.round_schedule.specs.declared.event.Event.{Event}
use Rattle.execution_file.specs.Deeds.{number_shown, numbers_of, one_more}

one_more_joined : (b : Bool) (o : Option ℕ) (xs ys : List ℕ) → one_more b o (xs ++ ys) ≡ one_more b o xs ++ ys
one_more_joined true (Some n) xs ys = refl
one_more_joined true None xs ys = refl
one_more_joined false o xs ys = refl

pub numbers_more : (h : ℕ) (t : List Event) (e : Event) → numbers_of h (t ++ e ∷ []) ≡ numbers_of h t ++ numbers_of h (e ∷ [])
numbers_more h [] e = refl
numbers_more h (f ∷ t) e =
    ap (one_more (f.hart == h) (number_shown f.access)) (numbers_more h t e)
    ∙ one_more_joined (f.hart == h) (number_shown f.access) (numbers_of h t) (numbers_of h (e ∷ []))

pub shows_none : (h : ℕ) (e : Event) → number_shown e.access ≡ None → numbers_of h (e ∷ []) ≡ []
shows_none h e none = ap (λ (o : Option ℕ). one_more (e.hart == h) o []) none ∙ of_none (e.hart == h)
  where
    of_none : (b : Bool) → one_more b None [] ≡ []
    of_none true = refl
    of_none false = refl

pub shows_another : (h : ℕ) (e : Event) → (e.hart ≡ h → ⊥) → numbers_of h (e ∷ []) ≡ []
shows_another h e other = ap (λ (b : Bool). one_more b (number_shown e.access) []) (ne_eqb e.hart h other)

pub shows_one : (h : ℕ) (e : Event) (n : ℕ) → number_shown e.access ≡ Some n → e.hart ≡ h → numbers_of h (e ∷ []) ≡ n ∷ []
shows_one h e n shown same =
    ap (λ (b : Bool). one_more b (number_shown e.access) []) (eq-eqb e.hart h same)
    ∙ ap (λ (o : Option ℕ). one_more true o []) shown
