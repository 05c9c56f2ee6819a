-- The reservations that harts' own LRs and SCs leave them, step by step.
use Rattle.std.proofs.Common.{◌≡◌, ◌≢◌, ℕ, ◌<◌, ◌==◌, length, get_or, slice_set, sym, inl, inr, arith, if◌then◌else◌, List, [], ◌∷◌, ◌++◌, Option, None, refl, ap, ◌∙◌}
use Rattle.std.proofs.lemmas.List.{get_or-set_other, get_or-set_same}
use Rattle.std.proofs.lemmas.Bool.{cases_eq, cond-true, cond-false, eq-eqb, ne_eqb}
use Rattle.round_schedule.specs.declared.access.Access.{Access}
use Rattle.round_schedule.specs.declared.event.Event.{Event}
use Rattle.round_schedule.specs.declared.span.Span.{Span}
use Rattle.round_schedule.specs.Held.{held_after_own}
use Rattle.pages.specs.Memory.{Memory}
use Rattle.execution.specs.declared.step.ScriptedStep.{ScriptedStep}
use Rattle.execution.specs.Executions.{Executes, Standing, Takes, begins, goes, own_held, own_held_from, stops}
use Rattle.execution.specs.Progressing.{step_event}

pub own_more : (h : ℕ) (s : Option Span) (t : List Event) (e : Event) → own_held_from h s (t ++ e ∷ []) ≡ (if e.hart == h then held_after_own e.access (own_held_from h s t) else own_held_from h s t)
own_more h s [] e = refl
own_more h s (f ∷ t) e = own_more h (if f.hart == h then held_after_own f.access s else s) t e

pub own_same : (h i : ℕ) (t : List Event) (a : Option Access) → i ≡ h → own_held h (t ++ step_event i a ∷ []) ≡ held_after_own (step_event i a).access (own_held h t)
own_same h i t a e = own_more h None t (step_event i a) ∙ cond-true (i == h) (held_after_own (step_event i a).access (own_held h t)) (own_held h t) (eq-eqb i h e)

pub own_other : (h i : ℕ) (t : List Event) (a : Option Access) → i ≢ h → own_held h (t ++ step_event i a ∷ []) ≡ own_held h t
own_other h i t a n = own_more h None t (step_event i a) ∙ cond-false (i == h) (held_after_own (step_event i a).access (own_held h t)) (own_held h t) (ne_eqb i h n)

pub executes_on : (image : Memory) (p q r : Standing) → Executes image p q → Executes image q r → Executes image p r
executes_on image p q r x (begins _) = x
executes_on image p q r x (goes i _ s _ y z) = goes i p s r (executes_on image p q s x y) z
executes_on image p q r x (stops i _ s _ y z) = stops i p s r (executes_on image p q s x y) z

pub executes_more : (image : Memory) (s : ScriptedStep) (p q r : Standing) → Executes image p q → Takes image s q r → Executes image p r
executes_more image s p q r x t = elim t.step [ inl g ↦ goes s.hart p q r x g | inr z ↦ stops s.hart p q r x z ]

pub owned_step : (own : List (Option Span)) (t : List Event) (n i : ℕ) (a : Option Access) (held kept : Option Span) → length own ≡ n → i < n → ((j : ℕ) → j < n → get_or own j None ≡ own_held j t) →
    held ≡ own_held i t → kept ≡ held_after_own (step_event 0 a).access held → (j : ℕ) → j < n → get_or (slice_set own i kept) j None ≡ own_held j (t ++ step_event i a ∷ [])
owned_step own t n i a held kept size l each holds keeps j m = elim (cases_eq j i) [
  | inl same ↦
      ap (λ k. get_or (slice_set own i kept) k None) same
      ∙ get_or-set_same own i kept None (omega (arith, l, size))
      ∙ keeps ∙ ap (λ s. held_after_own (step_event i a).access s) holds ∙ sym (own_same i i t a refl)
      ∙ ap (λ k. own_held k (t ++ step_event i a ∷ [])) (sym same)
  | inr other ↦ get_or-set_other own i j kept None other ∙ each j m ∙ sym (own_other j i t a (λ e. other (sym e)))
]
